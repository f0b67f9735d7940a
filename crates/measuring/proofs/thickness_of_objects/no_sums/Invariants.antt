use Rattle.std.proofs.Common.{◌≡◌, ℕ, ◌<◌, length, get_or, []}
use Rattle.measure_terms.specs.ThicknessColumns.{ThicknessSum, sum_of}
use Rattle.measuring.proofs.thickness_of_objects.no_sums.Given as goal

abbrev pub invariant-loop-i : goal.invariant-loop-i
invariant-loop-i l = record {
  count : length l.all.items ≡ l._i;
  empty : (k : ℕ) (d : ThicknessSum) → k < l._i → get_or l.all.items k d ≡ sum_of [];
}
