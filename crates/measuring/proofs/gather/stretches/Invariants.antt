use Rattle.measuring.specs.Stretches.{HaveStretches}
use Rattle.measuring.proofs.gather.stretches.Given as goal

abbrev pub invariant-loop-i : goal.invariant-loop-i
invariant-loop-i g l = HaveStretches l.width l.labels l.count l.i l.all.items
