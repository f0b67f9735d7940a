use Rattle.std.proofs.Common.{◌≡◌, ◌≤◌}
use Rattle.std.specs.Prelude.{nat_abs}
use Rattle.measure_terms.specs.Gains.{gained}
use Rattle.measuring.specs.Tables.{is_new}
use Rattle.measuring.proofs.gain.gained.Given as goal

abbrev pub invariant-loop-cell : goal.invariant-loop-cell
invariant-loop-cell g l = record {
  value : l.n ≡ gained g.P.Point.DIM (is_new l.cells l.seen) l.cell-index;
  small : nat_abs l.n ≤ l.cell-index;
}
