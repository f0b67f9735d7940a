use Rattle.std.proofs.Common.{◌≡◌, ◌≤◌, ◌+◌, ◌*◌, ◌^◌, drop}
use Rattle.std.specs.Prelude.{unsigned_abs}
use Rattle.shape_refute.specs.Sums.{steps_sum}
use Rattle.shape_refute.proofs.refutation.steps_sum.Given as goal

abbrev pub invariant-loop-i : goal.invariant-loop-i
invariant-loop-i l = (l.total ≡ steps_sum l.axis l.k (drop l.i l.shares)) × (unsigned_abs l.total + l.i * 2 ^ 97 ≤ 2 ^ 99)
