use Rattle.std.proofs.Common.{◌-◌, arith, rules, FitsSigned, w64, to_z}
use mir.Syntax.{w128}
use Rattle.std.proofs.lemmas.Int.{to_z-of_z}
use Rattle.shape_refute.specs.Shown.{step_share_of}
use Rattle.shape_refute.proofs.Steps.{steps_step, bound_step}
use Rattle.shape_refute.proofs.refutation.steps_sum.Goals as goal

pub loop-i-preserved : goal.loop-i-preserved
loop-i-preserved c =
    let i = c.loop-i.i - 1 in
    let fm : FitsSigned w64 c.step_coordinate.result = search rules in
    let fw : FitsSigned w128 c.weighed.result = search rules in
    let fs : FitsSigned w128 c.sum-total.result = search rules in
    let ew = simp to_z-of_z at c.weighed.ensures.value in
    let es = simp to_z-of_z at c.sum-total.ensures.value in
    let total = to_z w128 c.loop-i.total-bits in
    let inv = c.loop-i.invariant in
    simp to_z-of_z (
      steps_step c.args.axis c.args.k c.args.shares.now c.loop-i.i i (step_share_of c.get-share.result) c.step_coordinate.result total c.weighed.result
          c.sum-total.result (omega arith) c.get-share.ensures inv.0 ew c.step_coordinate.ensures.value es,
      bound_step total c.weighed.result c.sum-total.result c.loop-i.i i (omega arith) inv.1 c.weighed.ensures.small es,
    )
