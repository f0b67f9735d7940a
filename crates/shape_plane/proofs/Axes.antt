-- A space of two axes or of three.
-- Which space it is belongs elsewhere.
use Rattle.std.proofs.Common.{◌≡◌, ℕ, ◌<◌, ◌⊎◌, inl, inr, sym, ◌∙◌, arith}

pub two_axes : (d r : ℕ) → r ≡ d → r ≡ 2 → d ≡ 2
two_axes d r e f = sym e ∙ f

pub three_axes : (d r : ℕ) → (d ≡ 2) ⊎ (d ≡ 3) → r ≡ d → (r ≡ 2 → ⊥) → d ≡ 3
three_axes d r (inl t) e n = absurd (n (e ∙ t))
three_axes d r (inr t) e n = t

pub first_axis : (d : ℕ) → (d ≡ 2) ⊎ (d ≡ 3) → 0 < d
first_axis d (inl t) = omega (arith, t)
first_axis d (inr t) = omega (arith, t)

pub second_axis : (d : ℕ) → (d ≡ 2) ⊎ (d ≡ 3) → 1 < d
second_axis d (inl t) = omega (arith, t)
second_axis d (inr t) = omega (arith, t)

pub third_axis : (d r : ℕ) → (d ≡ 2) ⊎ (d ≡ 3) → r ≡ d → (r ≡ 2 → ⊥) → 2 < d
third_axis d r t e n = let z = three_axes d r t e n in omega (arith, z)
