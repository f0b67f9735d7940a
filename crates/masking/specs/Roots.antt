-- The square root, rounded down to a whole number.
-- How it is found does not matter here.
use Rattle.std.specs.Prelude.{ℕ, ◌+◌, ◌*◌, ◌<◌, ◌≤◌, nat_lt, Bool}
use Rattle.std.specs.List.{range_with_len, find}
use Rattle.std.specs.Option.{unwrap_or}

-- r is the square root of n, rounded down
pub record IsRoot (n r : ℕ) : Type 0 where
  pub low : r * r ≤ n
  pub high : n < (r + 1) * (r + 1)

-- the square of the next number is past n
abbrev pub is_past : (n r : ℕ) → Bool
is_past n r = nat_lt n ((r + 1) * (r + 1))

-- the square root of n, rounded down: the first number for which the square of the next one is past n
unfoldable pub root : ℕ → ℕ
root n = unwrap_or (find (is_past n) (range_with_len 0 (n + 1))) 0
