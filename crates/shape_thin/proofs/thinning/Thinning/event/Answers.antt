use Rattle.shape_terms.proofs.FramedBoxes.{box_point_within}
use Rattle.shape_thin.proofs.thinning.Thinning.event.Goals as goal

pub returns-then-done-clause-within : goal.returns-then-done-clause-within
returns-then-done-clause-within g c = box_point_within g.P.Point.MAX_SIDE (g.P.Point.coords c.sides.result.lengths) (g.P.Point.coords c.unraster-p.result)
    c.sides.result.in_range g.met.P.Point.flat_side c.unraster-p.ensures.inside

pub returns-else-done-clause-within : goal.returns-else-done-clause-within
returns-else-done-clause-within g c = box_point_within g.P.Point.MAX_SIDE (g.P.Point.coords c.sides.result.lengths) (g.P.Point.coords c.unraster-p.result)
    c.sides.result.in_range g.met.P.Point.flat_side c.unraster-p.ensures.inside
