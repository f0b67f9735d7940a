-- The sums of the objects with one point more.
-- Lists of numbers and of sums alone stand here.
use Rattle.std.proofs.Common.{◌≡◌, ◌≢◌, ◌⊎◌, inl, inr, ◌+◌, ◌<◌, ◌≤◌, ℕ, true, false, List, [], ◌∷◌, ◌++◌, length, map, get_or, set, sym, ap, ◌∙◌, arith}
use Rattle.std.proofs.Common.{length-set, get_or-set_other, get_or-set_same}
use Rattle.std.specs.Prelude.{◌==◌, filter}
use Rattle.std.specs.List.{range_with_len}
use Rattle.std.proofs.Math.ListN.{get_or-append}
use Rattle.std.proofs.Math.Seq.{get_or-append_seam}
use Rattle.std.proofs.lemmas.Bool.{cond-true, cond-false, cases_eq}
use Rattle.std.proofs.lemmas.Bool.Decides.{nat_tests}
use Rattle.std.proofs.lemmas.List.{append-nil, map-id, map-append, length-map, length-append}
use Rattle.std.proofs.lemmas.List.Elements.{filter-append}
use Rattle.std.proofs.lemmas.List.FromFn.{length-range_with_len, map-range_with_len_more}
use Rattle.std.proofs.lemmas.List.Sums.{sum_by_push, length-filter, count_by-le-length}
use Rattle.measure_terms.specs.ThicknessColumns.{ThicknessSum, diameter, squared_diameter, sum_of, labelled}
use Rattle.measure_terms.proofs.OneMore.{greatest_more}
use Rattle.measuring.specs.OneMore.{sum_with}
use Rattle.measuring.specs.ThicknessSoFar.{AreSumsSoFar}

-- the sums of a list with one more number
sum_more : (ts : List ℕ) (t : ℕ) → sum_of (ts ++ t ∷ []) ≡ sum_with (sum_of ts) t
sum_more ts t =
    let a : length (ts ++ t ∷ []) ≡ length ts + 1 = omega (arith, length-append ts (t ∷ [])) in
    let b = sum_by_push diameter ts t in
    let c = sum_by_push squared_diameter ts t in
    let d = greatest_more ts t in
    λ i. record { count = a i; diameters = b i; squares = c i; greatest = d i }

-- one number more below the bound
range_more : (i : ℕ) → range_with_len 0 (i + 1) ≡ range_with_len 0 i ++ i ∷ []
range_more i =
    let z : 0 + i ≡ i = omega arith in
    sym (map-id (range_with_len 0 (i + 1))) ∙ map-range_with_len_more (λ x. x) 0 i i z ∙ ap (λ t. t ++ i ∷ []) (map-id (range_with_len 0 i))

own_more : (labels : List ℕ) (k i : ℕ) → get_or labels i 0 ≡ k → labelled labels k (i + 1) ≡ labelled labels k i ++ i ∷ []
own_more labels k i e =
    let test = λ (j : ℕ). get_or labels j 0 == k in
    let t : test i ≡ true = grind (arith, nat_tests) in
    ap (filter test) (range_more i) ∙ filter-append test (range_with_len 0 i) (i ∷ []) ∙ ap (λ l. labelled labels k i ++ l) (cond-true (test i) (i ∷ []) [] t)

other_more : (labels : List ℕ) (k i : ℕ) → get_or labels i 0 ≢ k → labelled labels k (i + 1) ≡ labelled labels k i
other_more labels k i e =
    let test = λ (j : ℕ). get_or labels j 0 == k in
    let t : test i ≡ false = grind (arith, nat_tests) in
    ap (filter test) (range_more i) ∙ filter-append test (range_with_len 0 i) (i ∷ []) ∙ ap (λ l. labelled labels k i ++ l) (cond-false (test i) (i ∷ []) [] t)
    ∙ append-nil (labelled labels k i)

-- ---- no point

-- one object more without a point
pub one_empty : (all : List ThicknessSum) (s : ThicknessSum) (i : ℕ) → length all ≡ i → s ≡ sum_of []
    → ((k : ℕ) (d : ThicknessSum) → k < i → get_or all k d ≡ sum_of [])
    → (k : ℕ) (d : ThicknessSum) → k < i + 1 → get_or (all ++ s ∷ []) k d ≡ sum_of []
one_empty all s i count none h k d l =
    let split : (k ≡ length all) ⊎ (k < length all) = grind arith in
    elim split [
      | inl e ↦ ap (λ j. get_or (all ++ s ∷ []) j d) e ∙ get_or-append_seam all s [] d ∙ none
      | inr m ↦ get_or-append all (s ∷ []) d k m ∙ h k d (omega (arith, m, count))
    ]

pub no_objects : (labels : List ℕ) (n : ℕ) (ts : List ℕ) (all : List ThicknessSum) → length all ≡ n
    → ((k : ℕ) (d : ThicknessSum) → k < n → get_or all k d ≡ sum_of []) → AreSumsSoFar labels n ts 0 all
no_objects labels n ts all count empty = record { count = count; each = λ k d l. empty k d l }

-- ---- one point more

-- no more points have a label than there are
few_labelled : (labels : List ℕ) (k i : ℕ) → length (labelled labels k i) ≤ length (range_with_len 0 i)
few_labelled labels k i =
    let test = λ (j : ℕ). get_or labels j 0 == k in
    omega (arith, length-filter test (range_with_len 0 i), count_by-le-length test (range_with_len 0 i))

-- an object has no more points than were taken
pub few_points : (labels : List ℕ) (n : ℕ) (ts : List ℕ) (i : ℕ) (ss : List ThicknessSum) (k : ℕ) (d : ThicknessSum) → AreSumsSoFar labels n ts i ss → k < n
    → (get_or ss k d).count ≤ i
few_points labels n ts i ss k d h l =
    let e = ap (λ (s : ThicknessSum). s.count) (h.each k d l) in
    let m = length-map (labelled labels (k + 1) i) (λ j. get_or ts j 0) in
    omega (arith, e, m, few_labelled labels (k + 1) i, length-range_with_len 0 i)

-- a point of none of the objects
pub one_passed : (labels : List ℕ) (n : ℕ) (ts : List ℕ) (i : ℕ) (ss : List ThicknessSum) → AreSumsSoFar labels n ts i ss
    → ((k : ℕ) → k < n → get_or labels i 0 ≢ k + 1) → AreSumsSoFar labels n ts (i + 1) ss
one_passed labels n ts i ss h other = record {
  count = h.count;
  each = λ k d l. h.each k d l ∙ sym (ap (λ js. sum_of (map (λ j. get_or ts j 0) js)) (other_more labels (k + 1) i (other k l)));
}

-- a point of the object j + 1
pub one_added : (labels : List ℕ) (n : ℕ) (ts : List ℕ) (i : ℕ) (ss : List ThicknessSum) (j : ℕ) (s : ThicknessSum) (c : ThicknessSum)
    → AreSumsSoFar labels n ts i ss → j < n → get_or labels i 0 ≡ j + 1
    → s ≡ sum_with (get_or ss j c) (get_or ts i 0) → AreSumsSoFar labels n ts (i + 1) (set ss j s)
one_added labels n ts i ss j s c h lj e is = record {
  count = length-set ss j s ∙ h.count;
  each = λ k d l. elim (cases_eq k j) [
    | inl same ↦ (
        let thick = λ (m : ℕ). get_or ts m 0 in
        let b : j < length ss = (let m = h.count in omega (arith, lj, m)) in
        let more = ap (λ js. sum_of (map thick js)) (own_more labels (j + 1) i e) ∙ ap sum_of (map-append thick (labelled labels (j + 1) i) (i ∷ []))
        ∙ sum_more (map thick (labelled labels (j + 1) i)) (thick i) in
        ap (λ m. get_or (set ss j s) m d) same ∙ get_or-set_same ss j s d b ∙ is ∙ ap (λ x. sum_with x (thick i)) (h.each j c lj) ∙ sym more
        ∙ ap (λ m. sum_of (map thick (labelled labels (m + 1) (i + 1)))) (sym same))
    | inr other ↦ get_or-set_other ss j k s d other ∙ h.each k d l
        ∙ sym (ap (λ js. sum_of (map (λ m. get_or ts m 0) js)) (other_more labels (k + 1) i (λ z. other (omega (arith, z, e)))))
  ];
}
