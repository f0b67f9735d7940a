use Rattle.std.proofs.Common.{◌≡◌, ℕ, ◌<◌, length, get_or, []}
use Rattle.measuring.specs.declared.outline.Outline.{Outline}
use Rattle.measuring.proofs.rows_of_objects.no_outlines.Given as goal

abbrev pub invariant-loop-i : goal.invariant-loop-i
invariant-loop-i l = record {
  count : length l.all.items ≡ l._i;
  empty : (k : ℕ) (d : Outline) → k < l._i → (get_or l.all.items k d).rows.items ≡ [];
}
