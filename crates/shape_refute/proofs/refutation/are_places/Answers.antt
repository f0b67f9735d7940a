use Rattle.std.proofs.Common.{◌-◌, ◌<◌, arith}
use Rattle.shape_terms.specs.Refutations.{Share}
use Rattle.shape_refute.specs.Shown.{share_of}
use Rattle.shape_refute.proofs.Steps.{all_step}
use Rattle.shape_refute.proofs.refutation.are_places.Goals as goal

pub loop-i-preserved : goal.loop-i-preserved
loop-i-preserved c =
    all_step (λ (s : Share). s.place < c.args.count) c.args.shares.now c.loop-i.i (c.loop-i.i - 1) (share_of c.get.result) (omega arith) c.get.ensures
    (omega (arith, c.if-get-count.false)) c.loop-i.invariant
