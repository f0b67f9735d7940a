-- A number at hand: it is of a set though the words do not hold it.
-- What the numbers stand for does not matter here.
use Rattle.std.specs.Prelude.{◌≡◌, ℕ, ◌*◌, ◌/◌, ◌%◌, ◌^◌, ◌<◌, List, length, slice_index, slice_set, Option, None, Some, IfSome}
use Rattle.std.specs.Int.Bits.{bit_or}
use Rattle.shape_grid.specs.Sets.{bit_of}

-- the words of a set, with the number at hand put in
abbrev pub with_hand : Option ℕ → List ℕ → List ℕ
with_hand None words = words
with_hand (Some h) words = slice_set words (h / 64) (bit_or (slice_index words (h / 64)) (1 * 2 ^ (h % 64) % 2 ^ 64))

-- the words have room for the number at hand, and do not hold it
pub record IsHeldApart (words : List ℕ) (h : ℕ) : Type 0 where
  pub room : h < 64 * length words
  pub out : bit_of words h ≡ 0

abbrev pub IsApart : Option ℕ → List ℕ → Type 0
IsApart hand words = IfSome hand (IsHeldApart words)
