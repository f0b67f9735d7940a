use Rattle.std.proofs.Common.{rules, arith, FitsSigned, w32}
use Rattle.std.proofs.lemmas.Int.{to_z-of_z}
use Rattle.shape_plane.proofs.Holding.{small_coordinate}
use Rattle.shape_plane.proofs.values.term.Goals as goal

pub product-requires-clause-x_small : goal.product-requires-clause-x_small
product-requires-clause-x_small g c =
    let f : FitsSigned w32 c.coord.result = search rules in
    let l = g.met.P.Point.axes c.args.p in
    simp to_z-of_z (small_coordinate g.P.Point.MAX_SIDE _ c.coord.result c.coord.ensures
    (c.requires.within c.args.k (let a = c.requires.axis in omega (arith, a, l))) g.met.P.Point.flat_side)
