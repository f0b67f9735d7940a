-- Quotients of a number by a square root, rounded down, by whole numbers alone.
-- Nothing here knows of points or lines.
use Rattle.std.specs.Prelude.{ℕ, ◌+◌, ◌*◌, ◌<◌, ◌≤◌, nat_lt, Bool}
use Rattle.std.specs.List.{range_with_len, find}
use Rattle.std.specs.Option.{unwrap_or}

-- q is the greatest number that is no greater than v over the square root of n
pub record IsRootQuotient (v n q : ℕ) : Type 0 where
  pub low : q * q * n ≤ v * v
  pub high : v * v < (q + 1) * (q + 1) * n

-- the number after q is greater than v over the square root of n
abbrev pub is_last : (v n q : ℕ) → Bool
is_last v n q = nat_lt (v * v) ((q + 1) * (q + 1) * n)

-- v over the square root of n, rounded down: the first number whose next one is greater; where n is 0 there is none, and this is 0
unfoldable pub root_quotient : (v n : ℕ) → ℕ
root_quotient v n = unwrap_or (find (is_last v n) (range_with_len 0 (v + 1))) 0
