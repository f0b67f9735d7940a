use Rattle.shape_terms.specs.Points.{sides_of}
use Rattle.measuring.proofs.TextSteps.{two}
use Rattle.measuring.proofs.text.put_cells.Goals as goal

pub returns : goal.returns
returns g c =
    let sides = sides_of (g.P.Point.coords c.args.sides.lengths) in
    two _ _ _ _ _ (c.in_ok-put_size.ensures sides) c.in_ok-put_form.ensures
