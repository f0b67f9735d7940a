use Rattle.std.proofs.Common.{◌<◌, ◌-◌, length, map, arith, rules, FitsSigned, w32, w64, to_z}
use mir.Syntax.{w128}
use Rattle.std.proofs.lemmas.Int.{to_z-of_z}
use Rattle.shape_terms.specs.Refutations.{Share}
use Rattle.shape_refute.specs.Sums.{axis_value}
use Rattle.shape_refute.specs.Shown.{share_of}
use Rattle.shape_refute.proofs.Steps.{all_at, sum_step, bound_step, value_read}
use Rattle.shape_refute.proofs.refutation.points_sum.Goals as goal

pub loop-i-preserved : goal.loop-i-preserved
loop-i-preserved g c =
    let i = c.loop-i.i - 1 in
    let fl = c.ranges.less in
    let fx : FitsSigned w32 c.coord.result = search rules in
    let fm : FitsSigned w64 c.minus.result = search rules in
    let fw : FitsSigned w128 c.weighed.result = search rules in
    let fs : FitsSigned w128 c.sum-total.result = search rules in
    let em = simp to_z-of_z at c.minus.ensures.value in
    let ew = simp to_z-of_z at c.weighed.ensures.value in
    let es = simp to_z-of_z at c.sum-total.ensures.value in
    let total = to_z w128 c.loop-i.total-bits in
    let inv = rw (to_z-of_z w32 c.args.less fl) at c.loop-i.invariant in
    let place : c.get-share.result.place < length c.args.points.now = all_at (λ (s : Share). s.place < length c.args.points.now) c.args.shares.now i
    (share_of c.get-share.result) c.get-share.ensures c.requires.places in
    let v = value_read g.P.Point.coords c.args.points.now c.get-share.result.place c.args.k c.index-points-share.result c.args.less c.coord.result
    c.minus.result c.index-points-share.is place c.coord.ensures em in
    simp to_z-of_z (
      sum_step (axis_value (map g.P.Point.coords c.args.points.now) c.args.k c.args.less) c.args.shares.now c.loop-i.i i (share_of c.get-share.result)
          c.minus.result total c.weighed.result c.sum-total.result (omega arith) c.get-share.ensures inv.0 ew v es,
      bound_step total c.weighed.result c.sum-total.result c.loop-i.i i (omega arith) inv.1 c.weighed.ensures.small es,
    )
