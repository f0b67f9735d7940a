-- The cracks of a picture are few, so its contours are few and have few points.
-- Bounds alone; how many lines a judge may still take belongs to the judge.
use Rattle.std.proofs.Common.{◌≡◌, ℕ, zero, suc, ◌+◌, ◌*◌, ◌<◌, ◌≤◌, Bool, List, [], ◌∷◌, length, map, drop, get_or, ap, sym, ◌∙◌, arith, inl, inr}
use Rattle.std.specs.Prelude.{◌≢◌, ◌==◌, not, filter, flat_map, All, AllPairs, Contains, slice_get, Some}
use Rattle.std.proofs.lemmas.Bool.{cond-true, cond-false, cases_Bool}
use Rattle.std.proofs.lemmas.List.{length-append, length-map, get_or_default}
use Rattle.std.proofs.lemmas.List.Sums.{sum_by-cons}
use Rattle.std.proofs.lemmas.List.Elements.{All-head, All-tail}
use native.Mathlib.Decide.{dec_lt}
use Rattle.shape_terms.specs.Points.{box_count}
use Rattle.shape_terms.specs.Pictures.{Picture}
use Rattle.shape_terms.specs.Contours.{Crack, IsCrack, IsCycle, stays, left_pixels, contour_points}
use Rattle.shape_terms.specs.Traces.{Contour, AreContours, contour_of, points_in}
use Rattle.shape_terms.specs.CrackNumbers.{crack_number}
use Rattle.shape_terms.proofs.Numbered.{number_below, number_once}
use Rattle.shape_terms.proofs.Pigeon.{pigeon}

-- cracks that are apart are at most four for each pixel
pub few_cracks : (X : Picture) (cracks : List Crack) → ((c : Crack) → Contains cracks c → IsCrack X c) → AllPairs (λ x y. x ≢ y) cracks
    → length cracks ≤ box_count X.sides * 4
few_cracks X [] each once = omega arith
few_cracks X (first ∷ cracks) each once =
    let all = first ∷ cracks in
    let is : (i : ℕ) → i < length all
    → IsCrack X (get_or all i first) = λ i h. each (get_or all i first) (i, h, get_or_default all i (get_or all i first) first h) in
    pigeon (box_count X.sides * 4) (length all) (λ i. crack_number X.sides (get_or all i first)) (λ i h. number_below X (get_or all i first) (is i h))
    (λ i j hi hj e.
    let same = number_once X (get_or all i first) (get_or all j first) (is i hi) (is j hj) e in
    elim (dec_lt i j) [
      | yes l ↦ absurd (once i j first l hj same)
      | no l ↦ elim (dec_lt j i) [
        | yes r ↦ absurd (once j i first r hi (sym same))
        | no r ↦ omega arith
      ]
    ])

filter_few : {A : Type 0} (test : A → Bool) (xs : List A) → length (filter test xs) ≤ length xs
filter_few test [] = omega arith
filter_few test (x ∷ xs) = elim (cases_Bool (test x)) [
  | inl t ↦ (let e = ap length (cond-true (test x) (x ∷ filter test xs) (filter test xs) t) in omega (arith, e, filter_few test xs))
  | inr f ↦ (let e = ap length (cond-false (test x) (x ∷ filter test xs) (filter test xs) f) in omega (arith, e, filter_few test xs))
]

-- a contour has no more points than its cycle has cracks
few_points : (X : Picture) (c : Crack) (cracks : List Crack) → length (contour_points X (c ∷ cracks)) ≤ length (c ∷ cracks)
few_points X c cracks =
    let left = left_pixels X (c ∷ cracks) in
    let f : length left ≤ length (c ∷ cracks) =
    omega (arith, length-map (filter (λ x. not (stays X x)) (c ∷ cracks)) (λ (x : Crack). x.pixel), filter_few (λ x. not (stays X x)) (c ∷ cracks)) in
    elim (cases_Bool (length left == 0)) [
      | inl t ↦ (let e = ap length (cond-true (length left == 0) (c.pixel ∷ []) left t) in omega arith)
      | inr n ↦ (let e = ap length (cond-false (length left == 0) (c.pixel ∷ []) left n) in omega arith)
    ]

-- neither more contours nor more points of them than there are cracks
few_of_cycles : (X : Picture) (cycles : List (List Crack)) → All (IsCycle X) cycles
    → (length cycles ≤ length (flat_map (λ c. c) cycles)) × (points_in (map (contour_of X) cycles) ≤ length (flat_map (λ c. c) cycles))
few_of_cycles X [] a = (omega arith, omega arith)
few_of_cycles X ([] ∷ cycles) a = absurd (All-head (IsCycle X) [] cycles a)
few_of_cycles X ((c ∷ cracks) ∷ cycles) a =
    let r = few_of_cycles X cycles (All-tail (IsCycle X) (c ∷ cracks) cycles a) in
    let n = length-append (c ∷ cracks) (flat_map (λ c. c) cycles) in
    let s = sum_by-cons (λ (k : Contour). length k.points) (contour_of X (c ∷ cracks)) (map (contour_of X) cycles) in
    let f = few_points X c cracks in
    (omega (arith, n, r.0), omega (arith, n, s, f, r.1))

-- a picture has at most four contours for each of its points, and at most four points of contours
pub few_in_all : (X : Picture) (contours : List Contour) → AreContours X contours
    → (length contours ≤ box_count X.sides * 4) × (points_in contours ≤ box_count X.sides * 4)
few_in_all X contours are =
    let cracks = few_cracks X (flat_map (λ c. c) are.cycles) (λ c i. (are.are.each c).1 i) are.are.once in
    let all = few_of_cycles X are.cycles are.are.cycle in
    let n : length contours ≡ length are.cycles = ap length are.contours_are ∙ length-map are.cycles (contour_of X) in
    let p : points_in contours ≡ points_in (map (contour_of X) are.cycles) = ap points_in are.contours_are in
    (omega (arith, cracks, all.0, n), omega (arith, cracks, all.1, p))

drop_here : (xs : List Contour) (n : ℕ) (k : Contour) → slice_get xs n ≡ Some k → drop n xs ≡ k ∷ drop (suc n) xs
drop_here [] n k e = cc
drop_here (x ∷ xs) zero k e = let h : x ≡ k = cc in ap (λ y. y ∷ xs) h
drop_here (x ∷ xs) (suc n) k e = drop_here xs n k e

-- the points of the contours from one on are its own and those of the contours behind it
pub points_from : (contours : List Contour) (n : ℕ) (k : Contour) → slice_get contours n ≡ Some k
    → points_in (drop n contours) ≡ length k.points + points_in (drop (n + 1) contours)
points_from contours n k e =
    let q : suc n ≡ n + 1 = omega arith in
    ap points_in (drop_here contours n k e ∙ ap (λ j. k ∷ drop j contours) q) ∙ sum_by-cons (λ (c : Contour). length c.points) k (drop (n + 1) contours)
