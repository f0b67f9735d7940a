use Rattle.std.proofs.Common.{◌≡◌, ℕ, ◌<◌, ◌≤◌, length}
use Rattle.shape_dist.specs.Spreads.{found, IsNearestOn}
use Rattle.shape_dist.specs.FirstAxis.{line_length}
use Rattle.shape_dist.proofs.first.fill_run.Given as goal

abbrev pub invariant-loop-i : goal.invariant-loop-i
invariant-loop-i g l = record {
  near : (j : ℕ) → l.from ≤ j → j < l.i
      → IsNearestOn g.T.Spreading.keeping l.grid (line_length l.grid.sides) j (found g.T.Spreading.keeping l.cells.values j);
  before : (j : ℕ) → j < l.from → found g.T.Spreading.keeping l.cells.values j ≡ found g.T.Spreading.keeping l.initial.cells.values j;
  behind : (j : ℕ) → l.i ≤ j → found g.T.Spreading.keeping l.cells.values j ≡ found g.T.Spreading.keeping l.initial.cells.values j;
  long : length l.cells.values ≡ length l.initial.cells.values;
  kept : l.cells.kept ≡ l.initial.cells.kept;
}
