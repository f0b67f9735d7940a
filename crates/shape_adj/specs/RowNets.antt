-- Sets of numbered places that stand in rows of one length.
-- Which points the places stand for does not matter here.
use Rattle.std.specs.Prelude.{◌≡◌, ℕ, suc, ◌+◌, ◌-◌, ◌/◌, ◌%◌, ◌^◌, ◌<◌, ◌≤◌, ◌⊎◌, Option, Some}

-- a row is told by its first place: each step leads to a row beside it, where places no further apart than reach are adjacent, and all other
-- adjacent places are side by side in one row
pub record IsRowNet (size width reach : ℕ) (O : ℕ → Type 0) (R : ℕ → ℕ → Type 0) (d : ℕ) (beside : ℕ → ℕ → Option ℕ) : Type 0 where
  pub some : 1 ≤ width
  pub few : size < 2 ^ 32
  pub whole : size % width ≡ 0
  pub bounded : (i : ℕ) → O i → i < size
  pub symmetric : (i j : ℕ) → R i j → R j i
  pub along : (i : ℕ) → suc i < size → suc i / width ≡ i / width → R i (suc i)
  pub sound : (start k other : ℕ) → start < size → start % width ≡ 0 → k < d → beside start k ≡ Some other
      → (other % width ≡ 0) × (other < size) × ((x y : ℕ) → x < width → y < width → x ≤ y + reach → y ≤ x + reach → R (start + x) (other + y))
  pub complete : (i j : ℕ) → O i → O j → R i j
      → ((j / width ≡ i / width) × ((j ≡ suc i) ⊎ (i ≡ suc j)))
      ⊎ ((k : ℕ) × (k < d) × (beside (i - i % width) k ≡ Some (j - j % width)) × (i % width ≤ j % width + reach) × (j % width ≤ i % width + reach))
