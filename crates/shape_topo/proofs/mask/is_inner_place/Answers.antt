use Rattle.std.proofs.Common.{◌≡◌, ◌-◌, ◌≤◌, inl, inr, rules, FitsSigned, w32, arith, ap, ◌∙◌, length}
use Rattle.std.specs.Prelude.{nat_abs}
use Rattle.std.proofs.lemmas.Bool.{ltb-true}
use Rattle.std.proofs.lemmas.Int.{to_z-of_z}
use Rattle.std.proofs.lemmas.List.{length-map}
use Rattle.shape_terms.specs.Points.{coordinate, sides_of, raster_point}
use Rattle.shape_terms.proofs.ObjectPlaces.{length-raster_point}
use Rattle.shape_adj.specs.NearMasks.{near_total}
use Rattle.shape_adj.proofs.Inner.{all_inside}
use Rattle.shape_topo.proofs.InnerPlaces.{left_more, left_end}
use Rattle.shape_topo.proofs.mask.is_inner_place.Goals as goal

pub loop-k-preserved : goal.loop-k-preserved
loop-k-preserved g c =
    let n = g.P.Point.coords c.args.sides.now.lengths in
    let f : FitsSigned w32 c.side-side.result = search rules in
    let a = g.met.P.Point.axes c.args.sides.now.lengths in
    let low = rw (to_z-of_z w32 c.side-side.result f) at c.if-x-lt1.false in
    let high = rw (to_z-of_z w32 c.side-side.result f) at c.if-x-side.false in
    rw (to_z-of_z w32 c.side-side.result f)
    (left_more n c.args.i c.loop-k.k c.loop-k.left (omega arith) c.side-side.result c.side-side.ensures.value c.side-side.ensures.some (omega arith)
    (omega arith) c.loop-k.invariant)

pub returns-then-left-ge1 : goal.returns-then-left-ge1
returns-then-left-ge1 g c t =
    let n = g.P.Point.coords c.args.sides.now.lengths in
    let p = raster_point (sides_of n) c.args.i in
    let f : FitsSigned w32 c.side.result = search rules in
    let a = g.met.P.Point.axes c.args.sides.now.lengths in
    let high = ltb-true c.loop-k.left (nat_abs c.side.result - 1) (rw (to_z-of_z w32 c.side.result f) at t) in
    let last : c.DIM-last.result - 1 ≡ c.loop-k.k = omega arith in
    let some : 1 ≤ g.P.Point.DIM = elim g.met.P.Point.two_or_three [ inl e ↦ omega arith | inr e ↦ omega arith ] in
    let axes : length p ≡ length n = length-raster_point (sides_of n) c.args.i ∙ length-map n nat_abs in
    let apart = left_end n c.args.i c.loop-k.k c.loop-k.left (omega (arith, c.DIM-last.ensures)) c.side.result (c.side.ensures.value ∙ ap (coordinate n) last)
    c.side.ensures.some (omega arith) high c.loop-k.invariant in
    λ k l. all_inside n p axes apart k (omega (arith, l, g.met.P.Pairing.near_total, ap near_total (axes ∙ a)))
