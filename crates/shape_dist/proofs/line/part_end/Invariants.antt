use Rattle.std.proofs.Common.{◌≡◌, ℕ, ◌+◌, ◌<◌, ◌≤◌}
use Rattle.shape_dist.specs.Spreads.{square_at}
use Rattle.shape_dist.proofs.line.part_end.Given as goal

abbrev pub invariant-loop-y : goal.invariant-loop-y
invariant-loop-y g l = record {
  later : l.x ≤ l.end;
  within : l.end ≤ l.y;
  bare : (z : ℕ) → l.end ≤ z → z < l.y → square_at g.T.Spreading.keeping l.cells (l.base + z) ≡ 0;
}
