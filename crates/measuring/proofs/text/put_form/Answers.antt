use Rattle.shape_terms.specs.Points.{sides_of}
use Rattle.measuring.proofs.TextSteps.{four}
use Rattle.measuring.proofs.text.put_form.Goals as goal

pub returns : goal.returns
returns g c =
    let sides = sides_of (g.P.Point.coords c.args.sides.lengths) in
    four _ _ _ _ _ _ _ _ _ c.in_ok-put_depth_where.ensures (c.in_ok-put_skeleton.ensures sides) (c.in_ok-put_touches.ensures sides)
    (c.in_ok-put_sides.ensures sides)
