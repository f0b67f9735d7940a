use Rattle.std.proofs.Common.{◌≡◌, ℕ, ◌<◌, length, get_or, []}
use Rattle.measuring.specs.declared.stretch.Stretches.{Stretches}
use Rattle.measuring.proofs.gather.no_stretches.Given as goal

abbrev pub invariant-loop-i : goal.invariant-loop-i
invariant-loop-i l = record {
  count : length l.all.items ≡ l._i;
  empty : (k : ℕ) (d : Stretches) → k < l._i → (get_or l.all.items k d).all.items ≡ [];
}
