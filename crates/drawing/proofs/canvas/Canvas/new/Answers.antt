use Rattle.std.proofs.Common.{rules, ap, ◌∙◌, replicate, None}
use Rattle.shape_terms.specs.Points.{sides_of}
use Rattle.drawing.specs.Seen.{flat}
use Rattle.drawing.proofs.CanvasLaws.{blank_canvas}
use Rattle.drawing.proofs.canvas.Canvas.new.Goals as goal

pub returns : goal.returns
returns c =
    let sides = sides_of (flat c.args.sides.lengths) in
    let cells = c.in_ok-cells.ensures.items_if_clones_equal (λ y e. search rules) ∙ ap (λ n. replicate n None) c.count-count.ensures.value
    ∙ blank_canvas sides in
    ap (λ v. record { sides = sides; cells = v }) cells
