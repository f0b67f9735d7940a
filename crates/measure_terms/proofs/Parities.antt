-- From a pixel to the one beside it, and to the one below it, the parity changes exactly where the crack between is in the set.
-- Beside is the definition; below goes along the row from the far left, by the even number of cracks at each corner.
use Rattle.std.proofs.Common.{◌≡◌, ℕ, zero, suc, Bool, false, refl, sym, ◌∙◌, ap, subst, arith}
use Rattle.std.specs.Prelude.{ℤ, pos, negsuc, ◌+ℤ◌}
use Rattle.std.proofs.lemmas.Int.{ints}
use Rattle.measure_terms.proofs.Parity.{differ, upright, lying, inside}
use Rattle.measure_terms.proofs.Corners.{Turned, even, moved_over}

one_more : (n : ℕ) → pos (suc n) ≡ pos n +ℤ pos 1
one_more n = omega (arith, ints)

one_less : (n : ℕ) → negsuc n ≡ negsuc (suc n) +ℤ pos 1
one_less n = omega (arith, ints)

-- the rule of the next crack at the corner below and on the right of a pixel
abbrev pub TurnedAt : (ℤ × ℤ → Bool) → (ℤ × ℤ → ℕ → Bool) → ℤ → ℤ → Type 0
TurnedAt X M x y = Turned (X (x, y)) (X (x +ℤ pos 1, y)) (X (x, y +ℤ pos 1)) (X (x +ℤ pos 1, y +ℤ pos 1))
    (M (x, y) 1) (M (x, y) 2) (M (x +ℤ pos 1, y) 2) (M (x +ℤ pos 1, y) 3)
    (M (x, y +ℤ pos 1) 0) (M (x, y +ℤ pos 1) 1) (M (x +ℤ pos 1, y +ℤ pos 1) 0) (M (x +ℤ pos 1, y +ℤ pos 1) 3)

module _ (X : ℤ × ℤ → Bool) (M : ℤ × ℤ → ℕ → Bool) (bare : (n : ℕ) (y : ℤ) → X (negsuc n, y) ≡ false) where
  none_left : (n : ℕ) (y : ℤ) → false ≡ upright X M (negsuc (suc n)) y
  none_left n y = sym (rw (bare (suc n) y, ← one_less n, bare n y) refl)

  pub beside : (x y : ℤ) → inside X M (x +ℤ pos 1) y ≡ differ (inside X M x y) (upright X M x y)
  beside (pos n) y = subst (λ z. inside X M z y ≡ differ (inside X M (pos n) y) (upright X M (pos n) y)) (one_more n) refl
  beside (negsuc zero) y = refl
  beside (negsuc (suc n)) y = subst (λ z. inside X M z y ≡ upright X M (negsuc (suc n)) y) (one_less n) (none_left n y)

  module _ (turned : (x y : ℤ) → TurnedAt X M x y) where
    even_here : (x y : ℤ) → differ (upright X M x y) (upright X M x (y +ℤ pos 1)) ≡ differ (lying X M x y) (lying X M (x +ℤ pos 1) y)
    even_here x y = even _ _ _ _ _ _ _ _ _ _ _ _ (turned x y)

    IsBelow : ℤ → ℤ → Type 0
    IsBelow x y = inside X M x (y +ℤ pos 1) ≡ differ (inside X M x y) (lying X M x y)

    along : (x y : ℤ) → IsBelow x y → IsBelow (x +ℤ pos 1) y
    unfolding IsBelow
    along x y h = beside x (y +ℤ pos 1) ∙ (ap (λ v. differ v (upright X M x (y +ℤ pos 1))) h
        ∙ (moved_over (inside X M x y) (upright X M x y) (upright X M x (y +ℤ pos 1)) (lying X M x y) (lying X M (x +ℤ pos 1) y) (even_here x y)
        ∙ ap (λ v. differ v (lying X M (x +ℤ pos 1) y)) (sym (beside x y))))

    below_left : (n : ℕ) (y : ℤ) → IsBelow (negsuc n) y
    unfolding IsBelow
    below_left n y = sym (rw (bare n y, bare n (y +ℤ pos 1)) refl)

    pub below : (x y : ℤ) → inside X M x (y +ℤ pos 1) ≡ differ (inside X M x y) (lying X M x y)
    unfolding IsBelow
    below (negsuc n) y = below_left n y
    below (pos zero) y = along (negsuc zero) y (below_left zero y)
    below (pos (suc n)) y = subst (λ z. IsBelow z y) (sym (one_more n)) (along (pos n) y (below (pos n) y))
