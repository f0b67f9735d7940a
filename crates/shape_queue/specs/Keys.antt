-- The order of the keys: by distance, then by place; and which keys a queue has.
-- Another order of keys is another order of the events.
use Rattle.std.specs.Prelude.{◌≡◌, ◌&&◌, ℕ, Bool, true, false, ltb, eqb, List, length, slice_index}
use Rattle.std.specs.declared.cmp.Ordering.{Ordering}
use Rattle.std.specs.Ordering.{ordering_then, nat_cmp, is_gt}
use Rattle.shape_grid.specs.Sets.{bit_of}
use Rattle.shape_queue.specs.declared.key.Key.{Key}
use Rattle.shape_queue.specs.Ranks.{rank_in}

abbrev pub key_cmp : Key → Key → Ordering
key_cmp a b = ordering_then (nat_cmp a.distance b.distance) (nat_cmp a.place b.place)

-- a queue: the distance of each place, and the set of the ranks of those that wait
pub record Queued : Type 0 where
  pub distances : List ℕ
  pub waiting : List ℕ

-- whether the key is in the queue: it is that of a place, and the rank of the place waits
unfoldable pub has : Queued → Key → Bool
has q k = ltb k.place (length q.distances) && (eqb k.distance (slice_index q.distances k.place) && eqb (bit_of q.waiting (rank_in q.distances k.place)) 1)

-- no key that is there is below this one
abbrev pub IsLeastKey : (Key → Bool) → Key → Type 0
IsLeastKey keys key = (k : Key) → keys k ≡ true → is_gt (key_cmp key k) ≡ false
