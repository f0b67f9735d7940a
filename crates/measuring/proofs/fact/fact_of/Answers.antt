use Rattle.std.proofs.Common.{arith}
use Rattle.std.proofs.lemmas.Int.{ints}
use Rattle.shape_terms.proofs.FramedBoxes.{box_point_within}
use Rattle.measuring.proofs.fact.fact_of.Goals as goal

pub neighbours-requires : goal.neighbours-requires
neighbours-requires g c =
    let s = c.sides-sides.result in
    let w = box_point_within g.P.Point.MAX_SIDE (g.P.Point.coords s.lengths) (g.P.Point.coords c.unraster-point.result) s.in_range g.met.P.Point.flat_side
    c.unraster-point.ensures.inside in
    λ k l. (omega (arith, ints, (w k l).0), (w k l).1)

pub exposed-requires : goal.exposed-requires
exposed-requires g c =
    let s = c.sides-sides.result in
    let w = box_point_within g.P.Point.MAX_SIDE (g.P.Point.coords s.lengths) (g.P.Point.coords c.unraster-point.result) s.in_range g.met.P.Point.flat_side
    c.unraster-point.ensures.inside in
    λ k l. (omega (arith, ints, (w k l).0), (w k l).1)
