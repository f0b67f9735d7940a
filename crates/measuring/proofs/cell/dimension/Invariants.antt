use Rattle.std.proofs.Common.{◌≡◌, ◌≤◌, take}
use Rattle.std.specs.Prelude.{count_by}
use Rattle.measure_terms.specs.Cells.{is_even}
use Rattle.measuring.proofs.cell.dimension.Given as goal

abbrev pub invariant-loop-k : goal.invariant-loop-k
invariant-loop-k g l = record {
  counted : l.n ≡ count_by is_even (take l.k (g.P.Point.coords l.v));
  few : l.n ≤ l.k;
}
