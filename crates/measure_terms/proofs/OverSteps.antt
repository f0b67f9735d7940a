-- The same, of any two near object pixels and of a step in any direction: what stands beside and below one another is looked at here, and nowhere else.
-- A set has one parity for all pixels of an object's component, and one for those that no crack of it parts.
use Rattle.std.proofs.Common.{◌≡◌, ◌⊎◌, inl, inr, ℕ, zero, suc, ◌<◌, ◌≤◌, Bool, true, false, refl, sym, subst, arith}
use Rattle.std.specs.Prelude.{ℤ, pos, negsuc, ◌+ℤ◌, ◌-ℤ◌, nat_abs}
use Rattle.std.proofs.lemmas.Int.{ints}
use Rattle.shape_terms.proofs.Turning.{IsEdge}
use Rattle.shape_terms.proofs.Successor.{Place, step, moves, IsSide}
use Rattle.measure_terms.proofs.Parity.{differ}
use Rattle.measure_terms.proofs.Parities.{TurnedAt}
use Rattle.measure_terms.proofs.SameParity.{between_none, parity, no_change_beside, no_change_below, pair_beside, pair_below, falling, rising, over_right}
use Rattle.measure_terms.proofs.SameParity.{over_left, over_lower, over_upper}

pub place_is : (a b c d : ℤ) → a ≡ c → b ≡ d → ◌≡◌ {A = Place} (a, b) (c, d)
place_is a b c d e f = λ i. (e i, f i)

-- whole numbers at most 1 apart
apart : (x y : ℤ) → nat_abs (x -ℤ y) ≤ 1 → (y ≡ x) ⊎ ((y ≡ x +ℤ pos 1) ⊎ (x ≡ y +ℤ pos 1))
apart x y h = by (x -ℤ y) refl
  where
    by : (z : ℤ) → z ≡ x -ℤ y → (y ≡ x) ⊎ ((y ≡ x +ℤ pos 1) ⊎ (x ≡ y +ℤ pos 1))
    by (pos zero) e = inl (omega (arith, ints))
    by (pos (suc zero)) e = inr (inr (omega (arith, ints)))
    by (pos (suc (suc n))) e = absurd (omega (arith, ints))
    by (negsuc zero) e = inr (inl (omega (arith, ints)))
    by (negsuc (suc n)) e = absurd (omega (arith, ints))

-- both coordinates at most 1 apart
abbrev pub Close : Place → Place → Type 0
Close p q = (nat_abs (p.0 -ℤ q.0) ≤ 1) × (nat_abs (p.1 -ℤ q.1) ≤ 1)

module _ (X : Place → Bool) (M : Place → ℕ → Bool) (bare : (n : ℕ) (y : ℤ) → X (negsuc n, y) ≡ false) (turned : (x y : ℤ) → TurnedAt X M x y) where
  abbrev pub s : Place → Bool
  s p = parity X M bare turned p

  -- the second pixel in each place round the first
  Alike : Place → Place → Type 0
  Alike p q = X p ≡ true → X q ≡ true → s p ≡ s q

  alike_if : (p q r : Place) → q ≡ r → Alike p r → Alike p q
  alike_if p q r e h = subst (Alike p) (sym e) h

  alike_back : (p q : Place) → Alike q p → Alike p q
  unfolding Alike
  alike_back p q h a b = sym (h b a)

  right_of : (x y : ℤ) → Alike (x, y) (x +ℤ pos 1, y)
  unfolding Alike
  right_of x y a b = sym (pair_beside X M bare turned x y a b)

  below_of : (x y : ℤ) → Alike (x, y) (x, y +ℤ pos 1)
  unfolding Alike
  below_of x y a b = sym (pair_below X M bare turned x y a b)

  falling_of : (x y : ℤ) → Alike (x, y) (x +ℤ pos 1, y +ℤ pos 1)
  unfolding Alike
  falling_of x y a b = sym (falling X M bare turned x y a b)

  rising_of : (x y : ℤ) → Alike (x +ℤ pos 1, y) (x, y +ℤ pos 1)
  unfolding Alike
  rising_of x y a b = sym (rising X M bare turned x y a b)

  alike : (x y u v : ℤ) → (u ≡ x) ⊎ ((u ≡ x +ℤ pos 1) ⊎ (x ≡ u +ℤ pos 1)) → (v ≡ y) ⊎ ((v ≡ y +ℤ pos 1) ⊎ (y ≡ v +ℤ pos 1)) → Alike (x, y) (u, v)
  unfolding Alike
  alike x y u v (inl e) (inl f) = alike_if (x, y) (u, v) (x, y) (place_is u v x y e f) (λ a b. refl)
  alike x y u v (inl e) (inr (inl f)) = alike_if (x, y) (u, v) (x, y +ℤ pos 1) (place_is _ _ _ _ e f) (below_of x y)
  alike x y u v (inl e) (inr (inr f)) = alike_back _ _ (alike_if (u, v) (x, y) (u, v +ℤ pos 1) (place_is _ _ _ _ (sym e) f) (below_of u v))
  alike x y u v (inr (inl e)) (inl f) = alike_if (x, y) (u, v) (x +ℤ pos 1, y) (place_is _ _ _ _ e f) (right_of x y)
  alike x y u v (inr (inl e)) (inr (inl f)) = alike_if (x, y) (u, v) (x +ℤ pos 1, y +ℤ pos 1) (place_is _ _ _ _ e f) (falling_of x y)
  alike x y u v (inr (inl e)) (inr (inr f)) = alike_back _ _ (subst (λ (p : Place). Alike p (x, y)) (sym (place_is u v (x +ℤ pos 1) v e refl))
      (alike_if (x +ℤ pos 1, v) (x, y) (x, v +ℤ pos 1) (place_is _ _ _ _ refl f) (rising_of x v)))
  alike x y u v (inr (inr e)) (inl f) = alike_back _ _ (alike_if (u, v) (x, y) (u +ℤ pos 1, v) (place_is _ _ _ _ e (sym f)) (right_of u v))
  alike x y u v (inr (inr e)) (inr (inl f)) = subst (λ (p : Place). Alike p (u, v)) (sym (place_is x y (u +ℤ pos 1) y e refl))
      (alike_if (u +ℤ pos 1, y) (u, v) (u, y +ℤ pos 1) (place_is _ _ _ _ refl f) (rising_of u y))
  alike x y u v (inr (inr e)) (inr (inr f)) = alike_back _ _ (alike_if (u, v) (x, y) (u +ℤ pos 1, v +ℤ pos 1) (place_is _ _ _ _ e f) (falling_of u v))

  -- near object pixels have one parity
  pub close_alike : (p q : Place) → Close p q → X p ≡ true → X q ≡ true → s p ≡ s q
  unfolding Alike
  close_alike p q c a b = alike p.0 p.1 q.0 q.1 (apart p.0 q.0 c.0) (apart p.1 q.1 c.1) a b

  -- ---- over a crack
  -- the parity changes over a crack exactly where the set has it
  Over : Place → ℕ → Place → Type 0
  Over p d q = X p ≡ true → X q ≡ false → s q ≡ differ (s p) (M p d)

  up_again : (a : ℤ) → a +ℤ negsuc 0 +ℤ pos 1 ≡ a
  up_again a = omega (arith, ints)

  same_place : (a : ℤ) → a ≡ a +ℤ pos 0
  same_place a = omega (arith, ints)

  over : (p : Place) (d : ℕ) → d < 4 → Over p d (step d p)
  unfolding Over
  over p zero l = subst (λ (q : Place). Over p 0 q) (place_is p.0 (p.1 +ℤ negsuc 0) _ _ (same_place p.0) refl)
      (subst (λ (r : Place). Over r 0 (p.0, p.1 +ℤ negsuc 0)) (place_is p.0 (p.1 +ℤ negsuc 0 +ℤ pos 1) p.0 p.1 refl (up_again p.1))
      (over_upper X M bare turned p.0 (p.1 +ℤ negsuc 0)))
  over p (suc zero) l = subst (λ (q : Place). Over p 1 q) (place_is (p.0 +ℤ pos 1) p.1 _ _ refl (same_place p.1)) (over_right X M bare turned p.0 p.1)
  over p (suc (suc zero)) l = subst (λ (q : Place). Over p 2 q) (place_is p.0 (p.1 +ℤ pos 1) _ _ (same_place p.0) refl) (over_lower X M bare turned p.0 p.1)
  over p (suc (suc (suc zero))) l = subst (λ (q : Place). Over p 3 q) (place_is (p.0 +ℤ negsuc 0) p.1 _ _ refl (same_place p.1))
      (subst (λ (r : Place). Over r 3 (p.0 +ℤ negsuc 0, p.1)) (place_is (p.0 +ℤ negsuc 0 +ℤ pos 1) p.1 p.0 p.1 (up_again p.0) refl)
      (over_left X M bare turned (p.0 +ℤ negsuc 0) p.1))
  over p (suc (suc (suc (suc d)))) l = absurd (omega arith)

  pub over_crack : (p : Place) (d : ℕ) → IsEdge moves X IsSide p d → s (step d p) ≡ differ (s p) (M p d)
  unfolding Over
  over_crack p d e = over p d e.0 e.1 e.2

  -- ---- over no crack
  -- the set has no crack of the pixel
  abbrev pub Free : Place → Type 0
  Free p = (d : ℕ) → M p d ≡ false

  Plain : Place → Place → Type 0
  Plain p q = Free p → Free q → s q ≡ s p

  free_right : (x y : ℤ) → Plain (x, y) (x +ℤ pos 1, y)
  unfolding Plain
  free_right x y f g = no_change_beside X M bare turned x y (between_none (X (x, y)) (X (x +ℤ pos 1, y)) _ _ (f 1) (g 3))

  free_lower : (x y : ℤ) → Plain (x, y) (x, y +ℤ pos 1)
  unfolding Plain
  free_lower x y f g = no_change_below X M bare turned x y (between_none (X (x, y)) (X (x, y +ℤ pos 1)) _ _ (f 2) (g 0))

  free_left : (x y : ℤ) → Plain (x +ℤ pos 1, y) (x, y)
  unfolding Plain
  free_left x y f g = sym (free_right x y g f)

  free_upper : (x y : ℤ) → Plain (x, y +ℤ pos 1) (x, y)
  unfolding Plain
  free_upper x y f g = sym (free_lower x y g f)

  free : (p : Place) (d : ℕ) → d < 4 → Plain p (step d p)
  free p zero l = subst (λ (q : Place). Plain p q) (place_is p.0 (p.1 +ℤ negsuc 0) _ _ (same_place p.0) refl)
      (subst (λ (r : Place). Plain r (p.0, p.1 +ℤ negsuc 0)) (place_is p.0 (p.1 +ℤ negsuc 0 +ℤ pos 1) p.0 p.1 refl (up_again p.1))
      (free_upper p.0 (p.1 +ℤ negsuc 0)))
  free p (suc zero) l = subst (λ (q : Place). Plain p q) (place_is (p.0 +ℤ pos 1) p.1 _ _ refl (same_place p.1)) (free_right p.0 p.1)
  free p (suc (suc zero)) l = subst (λ (q : Place). Plain p q) (place_is p.0 (p.1 +ℤ pos 1) _ _ (same_place p.0) refl) (free_lower p.0 p.1)
  free p (suc (suc (suc zero))) l = subst (λ (q : Place). Plain p q) (place_is (p.0 +ℤ negsuc 0) p.1 _ _ refl (same_place p.1))
      (subst (λ (r : Place). Plain r (p.0 +ℤ negsuc 0, p.1)) (place_is (p.0 +ℤ negsuc 0 +ℤ pos 1) p.1 p.0 p.1 (up_again p.0) refl)
      (free_left (p.0 +ℤ negsuc 0) p.1))
  free p (suc (suc (suc (suc d)))) l = absurd (omega arith)

  pub over_none : (p : Place) (d : ℕ) → d < 4 → Free p → Free (step d p) → s (step d p) ≡ s p
  unfolding Plain
  over_none p d l f g = free p d l f g
