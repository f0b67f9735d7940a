-- Object pixels near each other have one parity, a pixel and its neighbour over a crack have two where the crack is in the set,
-- and neighbours of which the set has no crack have one.
use Rattle.std.proofs.Common.{◌≡◌, inl, inr, ℕ, Bool, true, false, refl, sym, ◌∙◌, ap}
use Rattle.std.specs.Prelude.{ℤ, pos, negsuc, ◌+ℤ◌}
use Rattle.std.proofs.lemmas.Bool.{cases_Bool}
use Rattle.shape_terms.proofs.Successor.{Place}
use Rattle.measure_terms.proofs.Parity.{differ, between, upright, lying, inside}
use Rattle.measure_terms.proofs.Corners.{plain}
use Rattle.measure_terms.proofs.Parities.{TurnedAt, beside, below}

-- ---- truth values

twice : (s m : Bool) → differ (differ s m) m ≡ s
twice true true = refl
twice true false = refl
twice false true = refl
twice false false = refl

pub between_none : (p q m n : Bool) → m ≡ false → n ≡ false → between p q m n ≡ false
between_none true true m n h k = refl
between_none true false m n h k = h
between_none false true m n h k = k
between_none false false m n h k = refl

between_both : (p q m n : Bool) → p ≡ true → q ≡ true → between p q m n ≡ false
between_both p q m n h k = rw (h, k) refl

between_first : (p q m n : Bool) → p ≡ true → q ≡ false → between p q m n ≡ m
between_first p q m n h k = rw (h, k) refl

between_second : (p q m n : Bool) → p ≡ false → q ≡ true → between p q m n ≡ n
between_second p q m n h k = rw (h, k) refl

module _ (X : Place → Bool) (M : Place → ℕ → Bool) (bare : (n : ℕ) (y : ℤ) → X (negsuc n, y) ≡ false) (turned : (x y : ℤ) → TurnedAt X M x y) where
  abbrev pub parity : Place → Bool
  parity p = inside X M p.0 p.1

  pub no_change_beside : (x y : ℤ) → upright X M x y ≡ false → parity (x +ℤ pos 1, y) ≡ parity (x, y)
  no_change_beside x y e = beside X M bare x y ∙ (ap (differ (inside X M x y)) e ∙ plain (inside X M x y))

  pub no_change_below : (x y : ℤ) → lying X M x y ≡ false → parity (x, y +ℤ pos 1) ≡ parity (x, y)
  no_change_below x y e = below X M bare turned x y ∙ (ap (differ (inside X M x y)) e ∙ plain (inside X M x y))

  pub pair_beside : (x y : ℤ) → X (x, y) ≡ true → X (x +ℤ pos 1, y) ≡ true → parity (x +ℤ pos 1, y) ≡ parity (x, y)
  pair_beside x y h k = no_change_beside x y (between_both _ _ (M (x, y) 1) (M (x +ℤ pos 1, y) 3) h k)

  pub pair_below : (x y : ℤ) → X (x, y) ≡ true → X (x, y +ℤ pos 1) ≡ true → parity (x, y +ℤ pos 1) ≡ parity (x, y)
  pair_below x y h k = no_change_below x y (between_both _ _ (M (x, y) 2) (M (x, y +ℤ pos 1) 0) h k)

  -- two object pixels that touch at a corner alone: their cracks there follow one another
  falling_apart : (x y : ℤ) → X (x, y) ≡ true → X (x +ℤ pos 1, y +ℤ pos 1) ≡ true → X (x +ℤ pos 1, y) ≡ false → parity (x +ℤ pos 1, y +ℤ pos 1) ≡ parity (x, y)
  falling_apart x y h k e =
      let u : upright X M x y ≡ M (x, y) 1 = between_first _ _ (M (x, y) 1) (M (x +ℤ pos 1, y) 3) h e in
      let l : lying X M (x +ℤ pos 1) y ≡ M (x +ℤ pos 1, y +ℤ pos 1) 0 = between_second _ _ (M (x +ℤ pos 1, y) 2) (M (x +ℤ pos 1, y +ℤ pos 1) 0) e k in
      let t : M (x, y) 1 ≡ M (x +ℤ pos 1, y +ℤ pos 1) 0 = (rw k at ((turned x y).down h e)) in
      below X M bare turned (x +ℤ pos 1) y ∙ (ap (λ v. differ v (lying X M (x +ℤ pos 1) y)) (beside X M bare x y)
      ∙ (ap (λ v. differ (differ (inside X M x y) v) (lying X M (x +ℤ pos 1) y)) (u ∙ (t ∙ sym l)) ∙ twice (inside X M x y) (lying X M (x +ℤ pos 1) y)))

  pub falling : (x y : ℤ) → X (x, y) ≡ true → X (x +ℤ pos 1, y +ℤ pos 1) ≡ true → parity (x +ℤ pos 1, y +ℤ pos 1) ≡ parity (x, y)
  falling x y h k = elim (cases_Bool (X (x +ℤ pos 1, y))) [
    | inl b ↦ pair_below (x +ℤ pos 1) y b k ∙ pair_beside x y h b
    | inr b ↦ falling_apart x y h k b
  ]

  rising_apart : (x y : ℤ) → X (x +ℤ pos 1, y) ≡ true → X (x, y +ℤ pos 1) ≡ true → X (x, y) ≡ false → parity (x, y +ℤ pos 1) ≡ parity (x +ℤ pos 1, y)
  rising_apart x y h k e =
      let u : upright X M x y ≡ M (x +ℤ pos 1, y) 3 = between_second _ _ (M (x, y) 1) (M (x +ℤ pos 1, y) 3) e h in
      let l : lying X M x y ≡ M (x, y +ℤ pos 1) 0 = between_second _ _ (M (x, y) 2) (M (x, y +ℤ pos 1) 0) e k in
      let t : M (x, y +ℤ pos 1) 0 ≡ M (x +ℤ pos 1, y) 3 = (rw h at ((turned x y).right k e)) in
      below X M bare turned x y ∙ (ap (differ (inside X M x y)) (l ∙ (t ∙ sym u)) ∙ sym (beside X M bare x y))

  pub rising : (x y : ℤ) → X (x +ℤ pos 1, y) ≡ true → X (x, y +ℤ pos 1) ≡ true → parity (x, y +ℤ pos 1) ≡ parity (x +ℤ pos 1, y)
  rising x y h k = elim (cases_Bool (X (x, y))) [
    | inl a ↦ pair_below x y a k ∙ sym (pair_beside x y a h)
    | inr a ↦ rising_apart x y h k a
  ]

  -- ---- over a crack
  pub over_right : (x y : ℤ) → X (x, y) ≡ true → X (x +ℤ pos 1, y) ≡ false → parity (x +ℤ pos 1, y) ≡ differ (parity (x, y)) (M (x, y) 1)
  over_right x y h k = beside X M bare x y ∙ ap (differ (inside X M x y)) (between_first _ _ (M (x, y) 1) (M (x +ℤ pos 1, y) 3) h k)

  pub over_left : (x y : ℤ) → X (x +ℤ pos 1, y) ≡ true → X (x, y) ≡ false → parity (x, y) ≡ differ (parity (x +ℤ pos 1, y)) (M (x +ℤ pos 1, y) 3)
  over_left x y h k =
      let m = between_second _ _ (M (x, y) 1) (M (x +ℤ pos 1, y) 3) k h in
      sym (ap (λ v. differ v (M (x +ℤ pos 1, y) 3)) (beside X M bare x y ∙ ap (differ (inside X M x y)) m) ∙ twice (inside X M x y) (M (x +ℤ pos 1, y) 3))

  pub over_lower : (x y : ℤ) → X (x, y) ≡ true → X (x, y +ℤ pos 1) ≡ false → parity (x, y +ℤ pos 1) ≡ differ (parity (x, y)) (M (x, y) 2)
  over_lower x y h k = below X M bare turned x y ∙ ap (differ (inside X M x y)) (between_first _ _ (M (x, y) 2) (M (x, y +ℤ pos 1) 0) h k)

  pub over_upper : (x y : ℤ) → X (x, y +ℤ pos 1) ≡ true → X (x, y) ≡ false → parity (x, y) ≡ differ (parity (x, y +ℤ pos 1)) (M (x, y +ℤ pos 1) 0)
  over_upper x y h k =
      let m = between_second _ _ (M (x, y) 2) (M (x, y +ℤ pos 1) 0) k h in
      sym (ap (λ v. differ v (M (x, y +ℤ pos 1) 0)) (below X M bare turned x y ∙ ap (differ (inside X M x y)) m) ∙ twice (inside X M x y) (M (x, y +ℤ pos 1) 0))
