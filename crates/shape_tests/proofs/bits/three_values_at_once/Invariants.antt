use Rattle.std.proofs.Common.{◌≡◌, length}
use Rattle.shape_tests.proofs.bits.three_values_at_once.Given as goal

abbrev pub invariant-loop-i : goal.invariant-loop-i
invariant-loop-i g l = length l.row ≡ 200
