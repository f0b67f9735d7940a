use Rattle.std.proofs.Common.{◌≡◌, length, map}
use Rattle.measure_terms.specs.Facts.{facts_below}
use Rattle.measure_terms.specs.Tables.{rows}
use Rattle.measuring.specs.Told.{measures_told}
use Rattle.measuring.proofs.table.add_points.Given as goal

abbrev pub invariant-loop-i : goal.invariant-loop-i
invariant-loop-i g l = map (measures_told l.left.sides) l.all ≡ rows (length l.fn.all) (facts_below l.object l.squares l.left l.labels l.i)
