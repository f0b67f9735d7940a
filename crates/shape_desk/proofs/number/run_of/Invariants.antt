use Rattle.shape_desk.specs.Number.{IsRunSoFar}
use Rattle.shape_desk.proofs.number.run_of.Given as goal

abbrev pub invariant-loop-i : goal.invariant-loop-i
invariant-loop-i l = IsRunSoFar l.bytes l.i l.value
