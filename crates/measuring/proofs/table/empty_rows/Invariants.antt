use Rattle.std.proofs.Common.{◌≡◌, [], map, ℕ, List}
use Rattle.measure_terms.specs.Tables.{rows}
use Rattle.measuring.specs.Told.{measures_told}
use Rattle.measuring.proofs.table.empty_rows.Given as goal

abbrev pub invariant-loop-i : goal.invariant-loop-i
invariant-loop-i l = (sides : List ℕ) → map (measures_told sides) l.all.items ≡ rows l.i []
