use Rattle.std.proofs.Common.{arith, length, ◌<◌}
use Rattle.measuring.proofs.TableSteps.{greatest_so_far}
use Rattle.measuring.proofs.table.greatest_label.Goals as goal

pub loop-i-preserved : goal.loop-i-preserved
loop-i-preserved c =
    let l : c.loop-i.i < length c.args.labels.now = omega arith in
    greatest_so_far c.args.labels.now c.loop-i.i c.label.result c.max-most.result c.loop-i.most l c.loop-i.invariant c.label.ensures c.max-most.ensures
