use Rattle.std.proofs.Common.{◌<◌, ◌≤◌, ℕ}
use Rattle.measuring.proofs.Steps.{gap_at}
use Rattle.measuring.proofs.cell.shares.Given as goal

abbrev pub invariant-loop-k : goal.invariant-loop-k
invariant-loop-k g l = (k : ℕ) → k < l.k → gap_at (g.P.Point.coords l.w) (g.P.Point.coords l.v) k ≤ 1
