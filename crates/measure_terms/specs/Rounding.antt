-- Thousandths, rounded to nearest by whole numbers alone.
-- Another precision is a change here and of the same numbers in `measuring`.
use Rattle.std.specs.Prelude.{ℕ, ◌+◌, ◌*◌, ◌/◌, ◌<◌, ◌≤◌, nat_lt, Bool}
use Rattle.std.specs.List.{range_with_len, find}
use Rattle.std.specs.Option.{unwrap_or}

-- ---- means

-- m is the quotient of a sum by a count in thousandths, rounded to nearest, and a half up
pub record IsMean (sum count m : ℕ) : Type 0 where
  pub low : 2 * count * m ≤ 2000 * sum + count
  pub high : 2000 * sum + count < 2 * count * (m + 1)

-- the quotient of a sum by a count in thousandths, and 0 where the count is 0
abbrev pub mean : (sum count : ℕ) → ℕ
mean sum count = (2000 * sum + count) / (2 * count)

-- ---- roots

-- the square root of s in thousandths is less than r and a half
abbrev pub is_below_half : (s r : ℕ) → Bool
is_below_half s r = nat_lt (4000000 * s) ((2 * r + 1) * (2 * r + 1))

-- r is the square root of s in thousandths, rounded to nearest; no such root is a whole number and a half
pub record IsRoot (s r : ℕ) : Type 0 where
  pub low : (m : ℕ) → m < r → (2 * m + 1) * (2 * m + 1) ≤ 4000000 * s
  pub high : 4000000 * s < (2 * r + 1) * (2 * r + 1)

-- the square root of s in thousandths: the first number that is not half a thousandth or more below it
unfoldable pub root : ℕ → ℕ
root s = unwrap_or (find (is_below_half s) (range_with_len 0 (1000 * s + 1))) 0

-- ---- roots of quotients

-- the square root of s / t in thousandths is less than r and a half
abbrev pub is_quotient_below_half : (s t r : ℕ) → Bool
is_quotient_below_half s t r = nat_lt (4000000 * s) ((2 * r + 1) * (2 * r + 1) * t)

-- r is the square root of s / t in thousandths, rounded to nearest and a half up
pub record IsQuotientRoot (s t r : ℕ) : Type 0 where
  pub low : (m : ℕ) → m < r → (2 * m + 1) * (2 * m + 1) * t ≤ 4000000 * s
  pub high : 4000000 * s < (2 * r + 1) * (2 * r + 1) * t

-- the square root of s / t in thousandths: the first number that is not half a thousandth or more below it; where t is 0 there is none, and this is 0
unfoldable pub quotient_root : (s t : ℕ) → ℕ
quotient_root s t = unwrap_or (find (is_quotient_below_half s t) (range_with_len 0 (1000 * s + 1))) 0
