-- Rows of truth values over the places of a net, as of those that a search has not come to yet.
-- Which points the places stand for does not matter here.
use Rattle.std.specs.Prelude.{◌≡◌, ℕ, ◌+◌, ◌↔◌, Bool, true, false, cond, List, [], ◌∷◌, length, slice_index, slice_index_or}

-- the value at the place is true
abbrev pub Marked : List Bool → ℕ → Type 0
Marked values i = slice_index_or values i false ≡ true

-- how many values are true
abbrev pub trues : List Bool → ℕ
trues [] = 0
trues (x ∷ xs) = cond x 1 0 + trues xs

-- one value for each place, true exactly for the places of O that have no label
pub record IsTodo (size : ℕ) (O : ℕ → Type 0) (labels : List ℕ) (values : List Bool) : Type 0 where
  pub filled : length values ≡ size
  pub exactly : (i : ℕ) → Marked values i ↔ (O i × (slice_index labels i ≡ 0))
