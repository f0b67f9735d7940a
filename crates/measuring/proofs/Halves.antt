-- The near neighbours of the first half come before their point in raster order, and those of the second half after it.
-- Points and steps alone.
use Rattle.std.proofs.Common.{◌≡◌, ◌⊎◌, inl, inr, ℕ, ◌+◌, ◌-◌, ◌/◌, ◌<◌, ◌≤◌, List, [], ◌∷◌, length, drop, take, subst, sym, ap, ◌∙◌, arith, refl, length-drop}
use Rattle.std.proofs.Common.{lit≤}
use Rattle.std.specs.Prelude.{ℤ, pos, ◌+ℤ◌, IsTrue}
use Rattle.std.specs.List.{AllByRecursion}
use Rattle.std.specs.Ordering.{ordering_then, int_cmp, nat_cmp}
use Rattle.std.proofs.lemmas.Bool.Decides.{nat_tests}
use Rattle.std.specs.Cmp.{int_cmp_is}
use Rattle.std.specs.declared.cmp.Ordering.TheVariants.{Less, Equal, Greater}
use Rattle.std.proofs.lemmas.Int.{ints, by_lt_z}
use Rattle.std.proofs.lemmas.List.{get_or-drop, get_or-take, length-take}
use Rattle.std.proofs.lemmas.List.Elements.{All-from_recursion}
use Rattle.shape_terms.specs.Points.{Point, in_box, box_count, raster_number, raster_point, raster_cmp}
use Rattle.shape_terms.specs.Adjacency.{moved, origin, near_point, near_step, near_steps}
use Rattle.shape_terms.proofs.Boxes.{raster_point_in, raster_number-raster_point}
use Rattle.shape_terms.proofs.ObjectPlaces.{length-raster_point}
use Rattle.shape_terms.proofs.RasterOrder.{raster_rises, less_from_cmp}
use Rattle.shape_terms.proofs.ShiftedSteps.{length-near_step}
use Rattle.shape_adj.specs.NearMasks.{near_total}
use Rattle.measure_terms.specs.Seen.{IsSeen}

more_from_cmp : (a b : ℕ) → nat_cmp a b ≡ Greater → b < a
more_from_cmp a b e = grind (arith, nat_tests)

step_cmp : (x y : ℤ) → int_cmp x (x +ℤ y) ≡ int_cmp (pos 0) y
step_cmp x y = by_lt_z (pos 0) y
    (λ l. sym (int_cmp_is x (x +ℤ y) Less (omega (arith, ints, l))) ∙ int_cmp_is (pos 0) y Less l)
    (λ m. by_lt_z y (pos 0)
    (λ l. sym (int_cmp_is x (x +ℤ y) Greater (omega (arith, ints, l))) ∙ int_cmp_is (pos 0) y Greater l)
    (λ l. sym (int_cmp_is x (x +ℤ y) Equal (omega (arith, ints, l, m))) ∙ int_cmp_is (pos 0) y Equal (omega (arith, ints, l, m))))

moved_cmp : (p v : Point) → length v ≡ length p → raster_cmp p (moved p v) ≡ raster_cmp (origin (length p)) v
moved_cmp [] [] l = refl
moved_cmp [] (y ∷ v) l = absurd (omega (arith, l))
moved_cmp (x ∷ p) [] l = absurd (omega (arith, l))
moved_cmp (x ∷ p) (y ∷ v) l = let r = moved_cmp p v (omega (arith, l)) in λ i. ordering_then (r i) (step_cmp x y i)

late : (d h n k : ℕ) → length (near_steps d) ≡ n → AllByRecursion (λ v. raster_cmp (origin d) v ≡ Less) (drop h (near_steps d)) → h ≤ k → k < n
    → raster_cmp (origin d) (near_step d k) ≡ Less
late d h n k e all a b =
    let i : h + (k - h) ≡ k = omega (arith, a) in
    let long : length (drop h (near_steps d)) ≡ length (near_steps d) - h = length-drop h (near_steps d) in
    subst (λ j. raster_cmp (origin d) (near_step d j) ≡ Less) i
    (ap (raster_cmp (origin d)) (sym (get_or-drop h (near_steps d) (k - h) []))
    ∙ All-from_recursion (λ v. raster_cmp (origin d) v ≡ Less) (drop h (near_steps d)) all (k - h) [] (omega (arith, long, e, a, b)))

late_flat : (k : ℕ) → near_total 2 / 2 ≤ k → k < near_total 2 → raster_cmp (origin 2) (near_step 2 k) ≡ Less
late_flat k a b = late 2 4 8 k refl (refl, (refl, (refl, (refl, tt)))) a b

late_solid : (k : ℕ) → near_total 3 / 2 ≤ k → k < near_total 3 → raster_cmp (origin 3) (near_step 3 k) ≡ Less
late_solid k a b = late 3 13 26 k refl (refl, (refl, (refl, (refl, (refl, (refl, (refl, (refl, (refl, (refl, (refl, (refl, (refl, tt))))))))))))) a b

late_step : (d k : ℕ) → (d ≡ 2) ⊎ (d ≡ 3) → near_total d / 2 ≤ k → k < near_total d → raster_cmp (origin d) (near_step d k) ≡ Less
late_step d k (inl e) = subst (λ d. near_total d / 2 ≤ k → k < near_total d → raster_cmp (origin d) (near_step d k) ≡ Less) (sym e) (late_flat k)
late_step d k (inr e) = subst (λ d. near_total d / 2 ≤ k → k < near_total d → raster_cmp (origin d) (near_step d k) ≡ Less) (sym e) (late_solid k)

-- none of them was seen before its point
pub not_later : (sides labels : List ℕ) (d label i k : ℕ) → (d ≡ 2) ⊎ (d ≡ 3) → length sides ≡ d → i < box_count sides → near_total d / 2 ≤ k → k < near_total d
    → IsSeen sides labels label i (near_point (raster_point sides i) k) → ⊥
not_later sides labels d label i k two axes below a b s =
    let p = raster_point sides i in
    let q = near_point p k in
    let len : length p ≡ d = length-raster_point sides i ∙ axes in
    let l : k < length (near_steps (length p)) = subst (λ d. k < near_total d) (sym len) b in
    let first = subst (λ d. raster_cmp (origin d) (near_step d k) ≡ Less) (sym len) (late_step d k two a b) in
    let cmp : raster_cmp p q ≡ Less = moved_cmp p (near_step (length p) k) (length-near_step (length p) k l) ∙ first in
    let m = less_from_cmp (raster_number sides p) (raster_number sides q) (sym (raster_rises sides p q (raster_point_in sides i below) s.is.inside) ∙ cmp) in
    let number = raster_number-raster_point sides i below in
    let o = s.below in
    omega (arith, m, number, o)

-- ---- the first half

early : (d h k : ℕ) → h ≤ length (near_steps d) → AllByRecursion (λ v. raster_cmp (origin d) v ≡ Greater) (take h (near_steps d)) → k < h
    → raster_cmp (origin d) (near_step d k) ≡ Greater
early d h k few all l =
    let long = length-take h (near_steps d) in
    ap (raster_cmp (origin d)) (sym (get_or-take h (near_steps d) k [] l)) ∙ All-from_recursion (λ v. raster_cmp (origin d) v ≡ Greater) (take h (near_steps d))
    all k [] (omega (arith, long, l, few))

early_flat : (k : ℕ) → k < near_total 2 / 2 → raster_cmp (origin 2) (near_step 2 k) ≡ Greater
early_flat k l = early 2 4 k (lit≤ tt) (refl, (refl, (refl, (refl, tt)))) l

early_solid : (k : ℕ) → k < near_total 3 / 2 → raster_cmp (origin 3) (near_step 3 k) ≡ Greater
early_solid k l = early 3 13 k (lit≤ tt) (refl, (refl, (refl, (refl, (refl, (refl, (refl, (refl, (refl, (refl, (refl, (refl, (refl, tt))))))))))))) l

early_step : (d k : ℕ) → (d ≡ 2) ⊎ (d ≡ 3) → k < near_total d / 2 → raster_cmp (origin d) (near_step d k) ≡ Greater
early_step d k (inl e) = subst (λ d. k < near_total d / 2 → raster_cmp (origin d) (near_step d k) ≡ Greater) (sym e) (early_flat k)
early_step d k (inr e) = subst (λ d. k < near_total d / 2 → raster_cmp (origin d) (near_step d k) ≡ Greater) (sym e) (early_solid k)

-- each of them that is in the box has a smaller number than its point
pub earlier : (sides : List ℕ) (d i k : ℕ) → (d ≡ 2) ⊎ (d ≡ 3) → length sides ≡ d → i < box_count sides → k < near_total d / 2
    → IsTrue (in_box sides (near_point (raster_point sides i) k)) → raster_number sides (near_point (raster_point sides i) k) < i
earlier sides d i k two axes below a inside =
    let p = raster_point sides i in
    let q = near_point p k in
    let len : length p ≡ d = length-raster_point sides i ∙ axes in
    let half = subst (λ d. k < near_total d / 2) (sym len) a in
    let l : k < length (near_steps (length p)) = omega (arith, half) in
    let first = subst (λ d. raster_cmp (origin d) (near_step d k) ≡ Greater) (sym len) (early_step d k two a) in
    let cmp : raster_cmp p q ≡ Greater = moved_cmp p (near_step (length p) k) (length-near_step (length p) k l) ∙ first in
    let m = more_from_cmp (raster_number sides p) (raster_number sides q) (sym (raster_rises sides p q (raster_point_in sides i below) inside) ∙ cmp) in
    let number = raster_number-raster_point sides i below in
    omega (arith, m, number)
