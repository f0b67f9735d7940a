use Rattle.std.proofs.Common.{◌≡◌, take}
use Rattle.measure_terms.specs.Measures.{greatest}
use Rattle.measuring.proofs.table.greatest_label.Given as goal

abbrev pub invariant-loop-i : goal.invariant-loop-i
invariant-loop-i l = l.most ≡ greatest (take l.i l.labels)
