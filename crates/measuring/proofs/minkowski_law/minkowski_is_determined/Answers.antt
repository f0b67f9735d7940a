use Rattle.std.specs.Prelude.{◌+◌, Contains, slice_index_or}
use Rattle.shape_terms.specs.Parts.{Object}
use Rattle.measure_terms.specs.Components.{component}
use Rattle.measure_terms.proofs.OctantComponents.{minkowski_once}
use Rattle.measuring.proofs.minkowski_law.minkowski_is_determined.Goals as goal

pub returns-clause-whole : goal.returns-clause-whole
returns-clause-whole c = λ X m n. minkowski_once (Object X) m n

pub returns-clause-components : goal.returns-clause-components
returns-clause-components c = λ X labels n k ms ns a b h i l.
    minkowski_once (Contains (component X labels (k + 1))) (slice_index_or ms k a) (slice_index_or ns k b) (h.each k a l) (i.each k b l)
