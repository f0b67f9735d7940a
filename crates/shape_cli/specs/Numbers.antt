-- The numbers that words of a command line spell, each in one way.
-- No command and no picture occurs here.
use Rattle.std.specs.Prelude.{◌≡◌, ◌≢◌, ◌≤◌, ℕ, List, Option, None, Some, ℤ, FitsSigned}
use Rattle.std.specs.Int.{w32}
use Rattle.std.specs.Fmt.{decimal, signed_decimal}

-- the number of 32 bits that a whole word spells: None exactly where there is none
abbrev pub ReadsCoordinate : List ℕ → Option ℤ → Type 0
ReadsCoordinate word None = (z : ℤ) → FitsSigned w32 z → word ≢ signed_decimal z
ReadsCoordinate word (Some z) = FitsSigned w32 z × (word ≡ signed_decimal z)

-- the word is no number in a range
abbrev pub IsNoNumber : (least most : ℕ) → List ℕ → Type 0
IsNoNumber least most word = (n : ℕ) → least ≤ n → n ≤ most → word ≡ decimal n → ⊥

-- the word spells the number, which is in the range
pub record SpellsNumber (least most : ℕ) (word : List ℕ) (n : ℕ) : Type 0 where
  pub from : least ≤ n
  pub up_to : n ≤ most
  pub spelled : word ≡ decimal n
