use Rattle.std.proofs.Common.{arith, rules, FitsSigned, w32}
use Rattle.std.proofs.lemmas.Int.{to_z-of_z}
use Rattle.measuring.proofs.SmallCoordinates.{place_small}
use Rattle.measuring.proofs.sums.place.Goals as goal

pub overflow_cast-result : goal.overflow_cast-result
overflow_cast-result g c =
    let s = c.args.sides in
    let f : FitsSigned w32 c.coord.result = search rules in
    let axes = g.met.P.Point.axes s.lengths in
    let h = place_small g.P.Point.MAX_SIDE (g.P.Point.coords s.lengths) (g.P.Point.coords c.args.p) c.args.k c.coord.result s.in_range g.met.P.Point.flat_side
    c.requires (omega arith) c.coord.ensures in
    rw (to_z-of_z w32 c.coord.result f) (search (rules, h.0, h.1))

pub returns-then-k-DIM-clause-small : goal.returns-then-k-DIM-clause-small
returns-then-k-DIM-clause-small g c =
    let s = c.args.sides in
    let f : FitsSigned w32 c.coord.result = search rules in
    let axes = g.met.P.Point.axes s.lengths in
    let h = place_small g.P.Point.MAX_SIDE (g.P.Point.coords s.lengths) (g.P.Point.coords c.args.p) c.args.k c.coord.result s.in_range g.met.P.Point.flat_side
    c.requires (omega arith) c.coord.ensures in
    rw (to_z-of_z w32 c.coord.result f) h.1
