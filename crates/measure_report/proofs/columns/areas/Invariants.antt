use Rattle.std.proofs.Common.{◌≡◌, map, take}
use Rattle.measure_report.proofs.columns.areas.Given as goal

abbrev pub invariant-loop-i : goal.invariant-loop-i
invariant-loop-i l = l.found.items ≡ map (λ m. m.area) (take l.i l.rows)
