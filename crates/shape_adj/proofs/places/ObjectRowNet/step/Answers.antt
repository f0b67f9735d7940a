use Rattle.std.proofs.Common.{arith}
use Rattle.std.proofs.lemmas.Int.{ints}
use Rattle.shape_terms.proofs.FramedBoxes.{box_point_within}
use Rattle.shape_adj.proofs.places.ObjectRowNet.step.Goals as goal

pub near-q-requires-clause-within : goal.near-q-requires-clause-within
near-q-requires-clause-within g c = λ k l.
    let s = c.args.self.now.sides in
    let b = box_point_within g.P.Point.MAX_SIDE (g.P.Point.coords s.lengths) (g.P.Point.coords c.unraster-p.result) s.in_range g.met.P.Point.flat_side
    c.unraster-p.ensures.inside k l in
    (omega (arith, ints, b.0), b.1)
