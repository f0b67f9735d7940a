use Rattle.std.proofs.Common.{◌≡◌, ◌<◌, ℕ, length}
use Rattle.measuring.specs.Tables.{IsCellAt, cell_in}
use Rattle.measuring.proofs.cell.near_cells.Given as goal

abbrev pub invariant-loop-k : goal.invariant-loop-k
invariant-loop-k g l = record {
  count : length l.cells.items ≡ l.k;
  each : (k : ℕ) → k < l.k → IsCellAt g.P.Point.DIM k (cell_in l.cells.items k);
}
