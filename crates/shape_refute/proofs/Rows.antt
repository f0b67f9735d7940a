-- Coefficients on the axes of a space and past them.
-- Plain variables alone stand here.
use Rattle.std.proofs.Common.{◌≡◌, ◌⊎◌, inl, inr, ℕ, ◌<◌, ◌≤◌, List, length, take, arith}
use Rattle.std.specs.Prelude.{ℤ, pos, ◌≤ℤ◌, nat_abs}
use Rattle.std.proofs.lemmas.Int.{ints}
use Rattle.std.proofs.lemmas.List.{get_or-take, get_or_past, length-take-le}
use Rattle.std.proofs.lemmas.Bool.{cases_lt}
use Rattle.shape_terms.specs.Points.{coordinate}

pub few_axes : (d : ℕ) → (d ≡ 2) ⊎ (d ≡ 3) → d ≤ 3
few_axes d (inl e) = omega arith
few_axes d (inr e) = omega arith

-- a coefficient past the axes is 0
pub coordinate_past : (a : List ℤ) (d u : ℕ) → d ≤ length a → d ≤ u → coordinate (take d a) u ≡ pos 0
coordinate_past a d u l h = get_or_past (take d a) u (pos 0) (rw (length-take-le d a l) h)

pub coordinate_within : (a : List ℤ) (d u : ℕ) → u < d → coordinate (take d a) u ≡ coordinate a u
coordinate_within a d u h = get_or-take d a u (pos 0) h

-- no coefficient is greater in size than the bound, where none of an axis is
pub all_within : (a : List ℤ) (d : ℕ) (b : ℤ) → d ≤ length a → pos 1 ≤ℤ b → ((u : ℕ) → u < d → pos (nat_abs (coordinate a u)) ≤ℤ b)
    → (u : ℕ) → pos (nat_abs (coordinate (take d a) u)) ≤ℤ b
all_within a d b l h each u = elim (cases_lt u d) [
  | inl m ↦ rw (coordinate_within a d u m) (each u m)
  | inr m ↦ rw (coordinate_past a d u l m) (omega (arith, ints))
]
