-- A row of truth values as the set of the places whose value is true.
-- How the values are changed does not matter here.
use Rattle.std.specs.Prelude.{◌≡◌, ℕ, ◌+◌, ◌*◌, ◌/◌, ◌<◌, ◌≤◌, ◌↔◌, Bool, true, false, ◌==◌, List, length, map, slice_index_or}
use Rattle.std.specs.List.{range_with_len}
use Rattle.std.specs.Int.{bit_at}
use Rattle.shape_terms.specs.Limits.{most_framed}
use Rattle.shape_grid.specs.Sets.{In, bit_of}

-- whether the number is in the set
abbrev pub is_in : List ℕ → ℕ → Bool
is_in words i = bit_of words i == 1

-- for each number below n, in order, whether it is in the set
abbrev pub truths : List ℕ → ℕ → List Bool
truths words n = map (is_in words) (range_with_len 0 n)

-- the words have room for the numbers below n, and no number from n on
pub record AreTruths (words : List ℕ) (n : ℕ) : Type 0 where
  pub few : n ≤ most_framed
  pub room : length words ≡ n / 64 + 1
  pub none_past : (i : ℕ) → n ≤ i → In words i → ⊥

-- k is the first place from a place on whose value is true
pub record IsFirstTrue (values : List Bool) (from k : ℕ) : Type 0 where
  pub on : from ≤ k
  pub within : k < length values
  pub there : slice_index_or values k false ≡ true
  pub first : (j : ℕ) → from ≤ j → j < k → slice_index_or values j false ≡ false

-- bit b of r is set exactly where b is below 3 and the value b places on is true
abbrev pub AreThree : List Bool → ℕ → ℕ → Type 0
AreThree values i r = (b : ℕ) → (bit_at r b ≡ 1) ↔ ((b < 3) × (slice_index_or values (i + b) false ≡ true))

-- bit k of r is set exactly where k is below 64 and the value at place 64 * w + k is true
abbrev pub AreOfWord : List Bool → ℕ → ℕ → Type 0
AreOfWord values w r = (k : ℕ) → (bit_at r k ≡ 1) ↔ ((k < 64) × (slice_index_or values (64 * w + k) false ≡ true))
