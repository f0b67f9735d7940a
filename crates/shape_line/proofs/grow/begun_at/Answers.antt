use Rattle.std.proofs.Common.{◌∙◌, ◌∷◌, []}
use Rattle.shape_line.proofs.grow.begun_at.Goals as goal

pub returns : goal.returns
returns c = record { axis = c.start.ensures.axis; taken = c.start.ensures.points ∙ (λ i. c.point_on.ensures.value i ∷ []) }
