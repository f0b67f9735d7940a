-- Means of numbers, rounded down.
-- Nothing here knows of lengths.
use Rattle.std.specs.Prelude.{ℕ, ◌+◌, ◌*◌, ◌<◌, ◌≤◌, List, length, sum}

-- m is the mean of some numbers, rounded down
pub record IsMean (xs : List ℕ) (m : ℕ) : Type 0 where
  pub low : length xs * m ≤ sum xs
  pub high : sum xs < length xs * (m + 1)
