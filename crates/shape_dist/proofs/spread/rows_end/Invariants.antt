use Rattle.std.proofs.Common.{◌≤◌}
use Rattle.shape_dist.proofs.spread.rows_end.Given as goal

abbrev pub invariant-loop-z : goal.invariant-loop-z
invariant-loop-z g l = l.y ≤ l.z
