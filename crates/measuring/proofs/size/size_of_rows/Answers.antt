use Rattle.std.proofs.Common.{◌≤◌, ◌^◌, List, length, sym, subst, ap, arith}
use Rattle.std.proofs.lemmas.List.{length-map}
use Rattle.shape_space.specs.declared.point.P2.{P2}
use Rattle.measure_terms.specs.Hulls.{IsHull}
use Rattle.measuring.specs.Corners.{corner, corners, IsOf, IsConvex, AreShort, AreInRasterOrder, IsCornerOfRows}
use Rattle.measuring.specs.Sizes.{hull_told, HasSize}
use Rattle.measuring.proofs.Between.{hull_of_ends}
use Rattle.measuring.proofs.Sized.{convex, short_hull, some_bounds, many_corners}
use Rattle.measuring.proofs.size.size_of_rows.Goals as goal

pub hull-requires-clause-some : goal.hull-requires-clause-some
hull-requires-clause-some c =
    let ps = c.in_ok-points.points.items in
    let all = length-map ps corner in
    let l = some_bounds c.args.rows.now (corners ps) c.requires.some c.in_ok-points.ensures.ends in
    subst (λ (l : List P2). 1 ≤ length l) (sym c.as_slice.ensures.value) (omega (arith, l, all))

pub hull-requires-clause-order : goal.hull-requires-clause-order
hull-requires-clause-order c = subst (λ (l : List P2). AreInRasterOrder (corners l)) (sym c.as_slice.ensures.value) c.in_ok-points.ensures.order

pub size_of_polygon-requires-clause-convex : goal.size_of_polygon-requires-clause-convex
size_of_polygon-requires-clause-convex c =
    subst (λ (l : List P2). IsConvex (corners l)) (sym c.as_slice-2.ensures.value)
    (convex (IsOf (corners c.as_slice.result.now)) (corners c.in_ok-round.round.items) c.in_ok-round.ensures.hull)

pub size_of_polygon-requires-clause-many : goal.size_of_polygon-requires-clause-many
size_of_polygon-requires-clause-many c =
    let rows = c.args.rows.now in
    let ps = c.in_ok-points.points.items in
    let h = c.in_ok-round.round.items in
    let all = length-map h corner in
    let is = subst (λ (l : List P2). IsHull (IsOf (corners l)) (corners h)) c.as_slice.ensures.value c.in_ok-round.ensures.hull in
    let l = many_corners rows (corners h) c.requires.some
    (hull_of_ends (IsCornerOfRows rows (length rows)) (IsOf (corners ps)) (corners h) c.in_ok-points.ensures.ends is) in
    subst (λ (r : List P2). 2 ≤ length r) (sym c.as_slice-2.ensures.value) (omega (arith, l, all))

pub size_of_polygon-requires-clause-few : goal.size_of_polygon-requires-clause-few
size_of_polygon-requires-clause-few c =
    let a = c.in_ok-points.ensures.few in
    let b = c.in_ok-round.ensures.few in
    let d = ap (λ (l : List P2). length l) c.as_slice.ensures.value in
    subst (λ (r : List P2). length r ≤ 2 ^ 20) (sym c.as_slice-2.ensures.value) (omega (arith, a, b, d))

pub size_of_polygon-requires-clause-short : goal.size_of_polygon-requires-clause-short
size_of_polygon-requires-clause-short c =
    let short = subst (λ (l : List P2). AreShort (corners l)) (sym c.as_slice.ensures.value) c.in_ok-points.ensures.short in
    subst (λ (r : List P2). AreShort (corners r)) (sym c.as_slice-2.ensures.value)
    (short_hull (corners c.as_slice.result.now) (corners c.in_ok-round.round.items) c.in_ok-round.ensures.hull short)

pub returns : goal.returns
returns c =
    let rows = c.args.rows.now in
    let ps = c.in_ok-points.points.items in
    let h = c.in_ok-round.round.items in
    let is = subst (λ (l : List P2). IsHull (IsOf (corners l)) (corners h)) c.as_slice.ensures.value c.in_ok-round.ensures.hull in
    record {
      hull = corners h;
      is = hull_of_ends (IsCornerOfRows rows (length rows)) (IsOf (corners ps)) (corners h) c.in_ok-points.ensures.ends is;
      size = subst (λ (r : List P2). HasSize (corners r) (hull_told c.size_of_polygon.result)) c.as_slice-2.ensures.value c.size_of_polygon.ensures;
    }
