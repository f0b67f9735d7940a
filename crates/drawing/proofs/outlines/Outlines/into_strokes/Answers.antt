use Rattle.std.proofs.Common.{ap, ◌∙◌}
use Rattle.shape_terms.specs.Points.{sides_of}
use Rattle.drawing.specs.Seen.{flat}
use Rattle.drawing.specs.Outlines.{Kept}
use Rattle.drawing.proofs.Contours.{closed_strokes}
use Rattle.drawing.proofs.outlines.Outlines.into_strokes.Goals as goal

pub returns : goal.returns
returns c = λ lines h. ap (λ (k : Kept). k.strokes) (c.self.view_is ∙ c.in_ok-close.ensures) ∙ closed_strokes (sides_of (flat c.args.sides.lengths)) lines
    c.args.self h
