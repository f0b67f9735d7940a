-- How many values of a row are true, in all of it and before a place.
-- What the places stand for does not matter here.
use Rattle.std.specs.Prelude.{◌≡◌, ℕ, ◌+◌, ◌*◌, ◌/◌, ◌<◌, ◌≤◌, Bool, List, length, take, count_by, slice_index}
use Rattle.shape_terms.specs.Limits.{most_framed}

-- how many of the values are true
abbrev pub trues : List Bool → ℕ
trues values = count_by (λ b. b) values

-- how many of the values before place i are true
abbrev pub trues_before : List Bool → ℕ → ℕ
trues_before values i = trues (take i values)

-- for each block of 64 places, the last of which may be short or empty: how many values before it are true
pub record AreCounts (values : List Bool) (counts : List ℕ) : Type 0 where
  pub few : length values ≤ most_framed
  pub long : length counts ≡ length values / 64 + 1
  pub each : (b : ℕ) → b < length counts → slice_index counts b ≡ trues_before values (64 * b)
