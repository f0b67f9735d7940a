use Rattle.shape_desk.proofs.ShortDigits.{AreDigits}
use Rattle.shape_desk.proofs.short.short_run.Given as goal

abbrev pub invariant-loop-len : goal.invariant-loop-len
invariant-loop-len l = AreDigits l.bytes l.len l.value
