use Rattle.std.proofs.Common.{arith}
use Rattle.std.proofs.lemmas.Int.{ints}
use Rattle.shape_terms.proofs.FramedBoxes.{box_point_within}
use Rattle.shape_adj.proofs.near.inner_place.Goals as goal

pub near-p-requires-clause-within : goal.near-p-requires-clause-within
near-p-requires-clause-within g c = λ k l.
    let s = c.args.sides.now in
    let b = box_point_within g.P.Point.MAX_SIDE (g.P.Point.coords s.lengths) (g.P.Point.coords c.unraster.result) s.in_range g.met.P.Point.flat_side
    c.unraster.ensures.inside k l in
    (omega (arith, ints, b.0), b.1)
