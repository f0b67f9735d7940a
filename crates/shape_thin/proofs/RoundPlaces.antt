-- A walk over the places of a mask, each of which is one step at most.
-- Laws over numbers alone.
use Rattle.std.proofs.Common.{◌+◌, ◌*◌, ◌%◌, ◌^◌, ◌≤◌, ◌<◌, ℕ, arith, w32}
use Rattle.std.specs.Int.{bit_not}
use Rattle.std.specs.Int.Bits.{bit_and}
use Rattle.std.specs.Int.Count.{count_trailing_zeros}
use Rattle.shape_adj.specs.NearMasks.{In}
use Rattle.shape_topo.proofs.PlaceWalk.{IsRest, rest_start, rest_end, rest_more, place_from, place_in, place_next, walk_to}

-- the least place that is left, and what is left without it
abbrev pub least_of : ℕ → ℕ
least_of rest = count_trailing_zeros 32 rest

abbrev pub others_of : ℕ → ℕ
others_of rest = bit_and rest (bit_not w32 (1 * 2 ^ count_trailing_zeros 32 rest % 2 ^ 32))

-- the places of m from a place on are left, what W says holds at that place, and so many steps were done from old ones
pub record IsWalk (W : ℕ → Type 0) (n m rest old steps : ℕ) : Type 0 where
  pub from : ℕ
  pub few : from ≤ n
  pub left : IsRest m from rest
  pub here : W from
  pub count : steps ≤ old + from

pub walk_start : (W : ℕ → Type 0) (n m old : ℕ) → W 0 → IsWalk W n m m old old
walk_start W n m old w = record { from = 0; few = omega arith; left = rest_start m; here = w; count = omega arith }

module _ (W : ℕ → Type 0) (n m old : ℕ) (pass : (j : ℕ) → j < n → (In m j → ⊥) → W j → W (j + 1)) where
  pub walk_end : (steps : ℕ) → IsWalk W n m 0 old steps → W n
  walk_end steps h = walk_to W h.from n h.few (λ j l b w. pass j b (rest_end m h.from h.left j l) w) h.here

  module _ (rest steps : ℕ) (h : IsWalk W n m rest old steps) (small : rest < 2 ^ 32) (more : 0 < rest) (below : least_of rest < n) where
    -- the places before the least one that is left are passed
    pub walk_come : W (least_of rest)
    walk_come = walk_to W h.from (least_of rest) (place_from m h.from rest h.left small more)
        (λ j l b w. pass j (omega arith) (place_next m h.from rest h.left small more j l b) w) h.here

    pub walk_more : (W' : ℕ → Type 0) (steps' : ℕ) → W' (least_of rest + 1) → steps' ≤ steps + 1
        → IsWalk W' n m (others_of rest) old steps'
    walk_more W' steps' w l = record {
      from = least_of rest + 1;
      few = omega arith;
      left = rest_more m h.from rest h.left small more;
      here = w;
      count = let f = place_from m h.from rest h.left small more in let c = h.count in omega arith;
    }

pub walk_place : (W : ℕ → Type 0) (n m rest old steps : ℕ) → IsWalk W n m rest old steps → rest < 2 ^ 32 → 0 < rest → In m (least_of rest)
walk_place W n m rest old steps h small more = place_in m h.from rest h.left small more

pub walk_count : (W : ℕ → Type 0) (n m rest old steps : ℕ) → IsWalk W n m rest old steps → steps ≤ old + n
walk_count W n m rest old steps h = let f = h.few in let c = h.count in omega arith
