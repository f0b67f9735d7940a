use Rattle.std.proofs.Common.{subst}
use Rattle.shape_terms.specs.Pictures.{Picture}
use Rattle.shape_terms.specs.Parts.{LabelsObject}
use Rattle.shape_terms.proofs.ObjectPlaces.{labels_object}
use Rattle.shape_adj.proofs.picture.labels.Goals as goal

pub returns : goal.returns
returns g c =
    rw c.of.ensures (subst (λ (X : Picture). LabelsObject X c.in_ok-components.components.labels.items) c.of-inside.ensures
    (labels_object c.of-inside.result.grid.now c.in_ok-components.components.count c.in_ok-components.components.labels.items
    c.in_ok-components.ensures.filled c.in_ok-components.ensures.members c.in_ok-components.ensures.ordered c.in_ok-components.ensures.parts))
