use Rattle.std.proofs.Common.{◌≡◌, ◌<◌, ◌+◌, pos, length, take, false, true, sym, subst, ap, ◌∙◌, arith, to_z, w32}
use Rattle.std.proofs.lemmas.Int.{ints}
use Rattle.shape_terms.specs.Points.{AreSides, sides_of}
use Rattle.std.specs.List.{range_with_len}
use Rattle.shape_grid.proofs.EqualSides.{equal_more, all_equal, equal_are_sides, sides_of-equal}
use Rattle.shape_grid.proofs.picture.equal_sides.Goals as goal

pub loop-k-preserved : goal.loop-k-preserved
loop-k-preserved g c =
    let k = c.loop-k.k in
    let n = c.args.side in
    let a = g.met.P.Point.axes c.loop-k.lengths in
    let flat = g.met.P.Point.flat_side in
    let below : k < length (g.P.Point.coords c.loop-k.lengths) = omega arith in
    let e : to_z w32 n ≡ pos n = omega (arith, ints, c.requires.most, flat) in
    ap (take (k + 1)) c.with-lengths.ensures ∙ equal_more n k (g.P.Point.coords c.loop-k.lengths) (to_z w32 n) below c.loop-k.invariant e

pub unreachable-requires : goal.unreachable-requires
unreachable-requires g c =
    let p = g.P.Point.coords c.loop-k.lengths in
    let e = all_equal c.args.side g.P.Point.DIM c.loop-k.k p (g.met.P.Point.axes c.loop-k.lengths) (omega arith) (omega arith) c.loop-k.invariant in
    let sides = subst (AreSides g.P.Point.MAX_SIDE) (sym e) (equal_are_sides g.P.Point.MAX_SIDE c.args.side g.P.Point.DIM c.requires.some c.requires.most) in
    let none : false ≡ true = c.in-None.ensures.exactly.1 sides in cc

pub returns : goal.returns
returns g c =
    let p = g.P.Point.coords c.loop-k.lengths in
    let e = all_equal c.args.side g.P.Point.DIM c.loop-k.k p (g.met.P.Point.axes c.loop-k.lengths) (omega arith) (omega arith) c.loop-k.invariant in
    ap (λ q. sides_of (g.P.Point.coords q)) c.in-Some.ensures.given ∙ ap sides_of e ∙ sides_of-equal c.args.side (range_with_len 0 g.P.Point.DIM)
