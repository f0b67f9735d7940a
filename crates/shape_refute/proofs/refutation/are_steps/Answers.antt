use Rattle.std.proofs.Common.{◌-◌, arith}
use Rattle.shape_terms.specs.Refutations.{StepShare, IsStepOf}
use Rattle.shape_refute.specs.Shown.{step_share_of}
use Rattle.shape_refute.proofs.Steps.{all_step}
use Rattle.shape_refute.proofs.refutation.are_steps.Goals as goal

pub loop-i-preserved : goal.loop-i-preserved
loop-i-preserved c =
    all_step (λ (s : StepShare). IsStepOf c.args.dim c.args.axis s.step) c.args.shares.now c.loop-i.i (c.loop-i.i - 1) (step_share_of c.get.result)
    (omega arith) c.get.ensures (c.is_step_of.ensures.0 c.if-not-is_step_of.false) c.loop-i.invariant
