use Rattle.std.proofs.Common.{◌≡◌, ◌-◌, ◌<◌, ℕ, false, length, slice_index_or}
use Rattle.shape_adj.proofs.exposed.clear.Given as goal

abbrev pub invariant-loop-i : goal.invariant-loop-i
invariant-loop-i g l = record {
  sides : l.exposed.sides ≡ l.initial.exposed.sides;
  filled : length l.exposed.values ≡ length l.initial.exposed.values;
  none : (j : ℕ) → j < l.next → slice_index_or l.exposed.values j false ≡ false;
}

abbrev pub decreases-loop-i : goal.decreases-loop-i
decreases-loop-i g l = length l.exposed.values - l.next
