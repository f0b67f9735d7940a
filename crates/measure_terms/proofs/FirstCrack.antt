-- Which side a contour's first crack has, and on which side of it the parity is even: no crack of the contour stands in the row before its first pixel.
-- So it is an upper side, and then the pixel over it is even, or it is a lower side, and then the pixel over it is odd.
use Rattle.std.proofs.Common.{◌≡◌, ◌⊎◌, inl, inr, ℕ, zero, suc, ◌<◌, Bool, true, false, refl, sym, ◌∙◌, ap, subst, arith, List, [], ◌∷◌, length}
use Rattle.std.specs.Prelude.{ℤ, pos, negsuc, ◌+ℤ◌, Contains}
use Rattle.std.proofs.lemmas.Int.{ints}
use Rattle.std.proofs.lemmas.Bool.{cases_Bool, both_ways}
use Rattle.std.proofs.lemmas.List.Elements.{All-contains}
use Rattle.std.specs.Cmp.{int_cmp_is}
use Rattle.std.specs.declared.cmp.Ordering.TheVariants.{Less}
use Rattle.shape_terms.specs.Points.{Point}
use Rattle.shape_terms.specs.Steps.{Before}
use Rattle.shape_terms.specs.Pictures.{Picture}
use Rattle.shape_terms.specs.Contours.{Crack, CrackBefore, BeginsLeast, AreCycles, first_of_cycle}
use Rattle.shape_terms.proofs.CrackOrder.{crack_before_once, crack_not_before_itself}
use Rattle.shape_terms.proofs.SameCycles.{in_cases, in_none}
use Rattle.shape_terms.proofs.Successor.{Place, point, crack_at, step, held, Placed}
use Rattle.measure_terms.proofs.Parity.{differ, upright, lying, inside}
use Rattle.measure_terms.specs.ComponentContours.{IsComponent}
use Rattle.measure_terms.proofs.Parities.{below}
use Rattle.measure_terms.proofs.SameParity.{between_none}
use Rattle.measure_terms.proofs.OverSteps.{over_crack, place_is}
use Rattle.measure_terms.proofs.Corner.{turned_at}
use Rattle.measure_terms.proofs.Cycles.{has, has_it, it_has}
use Rattle.measure_terms.proofs.OneContour.{none_left, IsContour, cycle_of, is_cycle, first_in, bare_is_none, set, set_closed, set_own}

-- a point of a higher row stands before
higher_before : (p q : Place) → p.1 +ℤ pos 1 ≡ q.1 → Before (point p) (point q)
higher_before p q e = rw (sym (int_cmp_is p.1 q.1 Less (omega (arith, ints)))) refl

-- nothing of the list stands before its first
nothing_before : (xs : List Crack) → BeginsLeast xs → (d : Crack) → Contains xs d → CrackBefore d (first_of_cycle xs) → ⊥
nothing_before [] l d i b = in_none d i
nothing_before (c ∷ xs) l d i b = elim (in_cases c xs d i) [
  | inl e ↦ crack_not_before_itself d c (sym e) b
  | inr j ↦ crack_before_once d c b (All-contains (CrackBefore c) xs d l j)
]

module _ (X : Picture) (axes : length X.sides ≡ 2) (K : Point → Bool) (part : IsComponent X K) (cycles : List (List Crack)) (are : AreCycles X cycles)
    (xs : List Crack) (i : IsContour X axes K part cycles are xs) where
  -- the parity of the cracks of the contour before a pixel
  abbrev pub odd : Place → Bool
  odd p = inside (held X) (set X axes K part cycles are xs i) p.0 p.1

  not_before : (d : Crack) → CrackBefore d (first_of_cycle xs) → has xs d ≡ false
  not_before d b = elim (cases_Bool (has xs d)) [
    | inl t ↦ absurd (nothing_before xs (All-contains BeginsLeast cycles xs are.least (cycle_of X axes K part cycles are xs i)) d (it_has xs d t) b)
    | inr f ↦ f
  ]

  -- the first crack as a place and a side
  module _ (a : Placed X (first_of_cycle xs)) where
    -- none of its cracks stands in the row before
    row_free : (q : Place) (e : ℕ) → q.1 +ℤ pos 1 ≡ a.place.1 → has xs (crack_at q e) ≡ false
    row_free q e h = not_before (crack_at q e) (subst (λ (c : Crack). CrackBefore (crack_at q e) c) (sym a.is) (inl (higher_before q a.place h)))

    row_even : (x y : ℤ) → y +ℤ pos 1 ≡ a.place.1 → inside (held X) (set X axes K part cycles are xs i) x y ≡ false
    row_even (negsuc n) y h = refl
    row_even (pos zero) y h = between_none (held X (negsuc 0, y)) (held X (negsuc 0 +ℤ pos 1, y)) _ _ (row_free (negsuc 0, y) 1 h)
        (row_free (negsuc 0 +ℤ pos 1, y) 3 h)
    row_even (pos (suc n)) y h =
        ap (λ v. differ v (upright (held X) (set X axes K part cycles are xs i) (pos n) y)) (row_even (pos n) y h)
        ∙ between_none (held X (pos n, y)) (held X (pos n +ℤ pos 1, y)) _ _ (row_free (pos n, y) 1 h) (row_free (pos n +ℤ pos 1, y) 3 h)

    -- a pixel of the first row is even unless its upper side is in the contour
    first_row : (x y : ℤ) → y +ℤ pos 1 ≡ a.place.1 → has xs (crack_at (x, y +ℤ pos 1) 0) ≡ false → odd (x, y +ℤ pos 1) ≡ false
    first_row x y h n =
        below (held X) (set X axes K part cycles are xs i) (none_left X)
        (turned_at (held X) (set X axes K part cycles are xs i) (set_closed X axes K part cycles are xs i)) x y
        ∙ (ap (λ v. differ v (lying (held X) (set X axes K part cycles are xs i) x y)) (row_even x y h)
        ∙ between_none (held X (x, y)) (held X (x, y +ℤ pos 1)) _ _ (row_free (x, y) 2 h) n)

    up_again : a.place.1 +ℤ negsuc 0 +ℤ pos 1 ≡ a.place.1
    up_again = omega (arith, ints)

    -- the first crack itself
    first_has : has xs (crack_at a.place (first_of_cycle xs).side) ≡ true
    first_has = subst (λ (c : Crack). has xs c ≡ true) a.is
        (has_it xs (first_of_cycle xs) (first_in X axes K part cycles are xs (is_cycle X axes K part cycles are xs i)))

    over_upper : odd (step 0 a.place) ≡ false
    over_upper = row_even (a.place.0 +ℤ pos 0) (a.place.1 +ℤ negsuc 0) up_again

    itself : 0 < (first_of_cycle xs).side → odd a.place ≡ false
    itself l =
        let n : has xs (crack_at a.place 0) ≡ false =
        not_before (crack_at a.place 0) (subst (λ (c : Crack). CrackBefore (crack_at a.place 0) c) (sym a.is) (inr (refl, l))) in
        let e : ◌≡◌ {A = Place} (a.place.0, a.place.1 +ℤ negsuc 0 +ℤ pos 1) a.place = place_is _ _ a.place.0 a.place.1 refl up_again in
        subst (λ (q : Place). odd q ≡ false) e (first_row a.place.0 (a.place.1 +ℤ negsuc 0) up_again
        (subst (λ (q : Place). has xs (crack_at q 0) ≡ false) (sym e) n))

    -- a pixel of the first row that is none of the object
    first_row_bare : (q : Place) → q.1 ≡ a.place.1 → held X q ≡ false → odd q ≡ false
    first_row_bare q s h =
        let u : q.1 +ℤ negsuc 0 +ℤ pos 1 ≡ q.1 = omega (arith, ints) in
        let e : ◌≡◌ {A = Place} (q.0, q.1 +ℤ negsuc 0 +ℤ pos 1) q = place_is _ _ q.0 q.1 refl u in
        let n : has xs (crack_at q 0) ≡ false = set_own X axes K part cycles are xs i q 0 (bare_is_none X axes K part q h) in
        subst (λ (q : Place). odd q ≡ false) e (first_row q.0 (q.1 +ℤ negsuc 0) (u ∙ s) (subst (λ (q : Place). has xs (crack_at q 0) ≡ false) (sym e) n))

    -- over the first crack the parity changes
    changes : odd (step (first_of_cycle xs).side a.place) ≡ differ (odd a.place) true
    changes =
        over_crack (held X) (set X axes K part cycles are xs i) (none_left X)
        (turned_at (held X) (set X axes K part cycles are xs i) (set_closed X axes K part cycles are xs i)) a.place (first_of_cycle xs).side a.edge
        ∙ ap (differ (odd a.place)) first_has

    -- a pixel of the same row over a side
    not_level : (d : ℕ) → (first_of_cycle xs).side ≡ d → 0 < d → (step d a.place).1 ≡ a.place.1 → ⊥
    not_level d s l e =
        let o : held X (step d a.place) ≡ false = subst (λ k. held X (step k a.place) ≡ false) s a.edge.2 in
        let c : odd (step d a.place) ≡ differ (odd a.place) true = subst (λ k. odd (step k a.place) ≡ differ (odd a.place) true) s changes in
        let f : odd (step d a.place) ≡ true = c ∙ ap (λ v. differ v true) (itself (subst (λ k. 0 < k) (sym s) l)) in
        both_ways (odd (step d a.place)) (first_row_bare (step d a.place) e o) f

    still : a.place.1 +ℤ pos 0 ≡ a.place.1
    still = omega (arith, ints)

    pub first_level : ((first_of_cycle xs).side ≡ 0) ⊎ ((first_of_cycle xs).side ≡ 2)
    first_level = by (first_of_cycle xs).side refl
      where
        by : (d : ℕ) → (first_of_cycle xs).side ≡ d → ((first_of_cycle xs).side ≡ 0) ⊎ ((first_of_cycle xs).side ≡ 2)
        by zero e = inl e
        by (suc zero) e = absurd (not_level 1 e (omega arith) still)
        by (suc (suc zero)) e = inr e
        by (suc (suc (suc zero))) e = absurd (not_level 3 e (omega arith) still)
        by (suc (suc (suc (suc d)))) e = absurd (omega (arith, a.edge.0))

    pub outer_even : (first_of_cycle xs).side ≡ 0 → odd (step (first_of_cycle xs).side a.place) ≡ false
    outer_even e = subst (λ k. odd (step k a.place) ≡ false) (sym e) over_upper

    pub hole_odd : (first_of_cycle xs).side ≡ 2 → odd (step (first_of_cycle xs).side a.place) ≡ true
    hole_odd e = changes ∙ ap (λ v. differ v true) (itself (subst (λ k. 0 < k) (sym e) (omega arith)))
