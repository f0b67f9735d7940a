-- Sets of numbered places whose adjacent places are told by links.
-- Which points the places stand for does not matter here.
use Rattle.std.specs.Prelude.{◌≡◌, ℕ, ◌<◌, Option, Some}

-- the set O has only places below size, and the d links of each of its places lead to the adjacent places of O
pub record IsNet (size : ℕ) (O : ℕ → Type 0) (R : ℕ → ℕ → Type 0) (d : ℕ) (next : ℕ → ℕ → Option ℕ) : Type 0 where
  pub bounded : (i : ℕ) → O i → i < size
  pub symmetric : (i j : ℕ) → R i j → R j i
  pub sound : (i k j : ℕ) → k < d → next i k ≡ Some j → O j × R i j
  pub complete : (i j : ℕ) → O i → O j → R i j → (k : ℕ) × (k < d) × (next i k ≡ Some j)
