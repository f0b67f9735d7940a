-- The points of the facts of an object are those of its component, in raster order.
-- Laws of lists, and of the labels of a picture.
use Rattle.std.proofs.Common.{◌≡◌, inl, inr, ◌+◌, ◌<◌, ◌≤◌, ℕ, zero, suc, Bool, true, false, List, ◌∷◌, map, get_or, refl, sym, ap, ◌∙◌, arith}
use Rattle.std.specs.Prelude.{◌==◌, filter}
use Rattle.std.specs.List.{range_with_len}
use Rattle.std.proofs.lemmas.Bool.{cond-true, cond-false, cases_Bool}
use Rattle.std.proofs.lemmas.Bool.Decides.{nat_tests}
use Rattle.shape_terms.specs.Points.{Point, box_count, raster_number, raster_point}
use Rattle.shape_terms.specs.Pictures.{Picture, at}
use Rattle.shape_terms.specs.Parts.{LabelsObject}
use Rattle.shape_terms.proofs.Boxes.{raster_number-raster_point}
use Rattle.shape_terms.proofs.BoxLists.{box_points_are}
use Rattle.measure_terms.specs.Facts.{Fact, fact_at, fact_of, facts, facts_of, facts_below}
use Rattle.measure_terms.specs.Components.{component}

-- ---- filters of ranges

-- the fact of a point of the box, by the point
abbrev pub fact : (object : Picture) (squares : List ℕ) (left : Picture) (labels : List ℕ) → Point → Fact
fact object squares left labels p = fact_of object squares left labels (raster_number left.sides p) p

-- a label that is not 0 is that of an object point
pub seen : (X : Picture) (labels : List ℕ) (k i : ℕ) → 0 < k → (get_or labels i 0 == k) ≡ true → (at X (raster_point X.sides i) ≡ false → get_or labels i 0 ≡ 0)
    → at X (raster_point X.sides i) ≡ true
seen X labels k i some t back = elim (cases_Bool (at X (raster_point X.sides i))) [
  | inl o ↦ o
  | inr f ↦ (let z = back f in absurd (grind (arith, nat_tests)))
]

-- a point that fails the second test does not come through
pub passed : (p q : Point → Bool) (x : Point) (xs : List Point) → q x ≡ false → filter q (filter p (x ∷ xs)) ≡ filter q (filter p xs)
passed p q x xs f = elim (cases_Bool (p x)) [
  | inl t ↦ ap (filter q) (cond-true (p x) (x ∷ filter p xs) (filter p xs) t) ∙ cond-false (q x) (x ∷ filter q (filter p xs)) (filter q (filter p xs)) f
  | inr n ↦ ap (filter q) (cond-false (p x) (x ∷ filter p xs) (filter p xs) n)
]

-- the facts of an object as those of its points, found one after the other in a part of the box
part_of_box : (object : Picture) (squares : List ℕ) (left X : Picture) (labels : List ℕ) (k a n : ℕ) → left.sides ≡ X.sides → 0 < k → a + n ≤ box_count X.sides
    → ((i : ℕ) → i < box_count X.sides → at X (raster_point X.sides i) ≡ false → get_or labels i 0 ≡ 0)
    → facts_of k (map (fact_at object squares left labels) (range_with_len a n)) ≡ map (fact object squares left labels)
    (filter (λ p. get_or labels (raster_number X.sides p) 0 == k) (filter (at X) (map (raster_point X.sides) (range_with_len a n))))
part_of_box object squares left X labels k a zero s some l back = refl
part_of_box object squares left X labels k a (suc n) s some l back =
    let r = part_of_box object squares left X labels k (a + 1) n s some (omega arith) back in
    let p = raster_point X.sides a in
    let rest = map (raster_point X.sides) (range_with_len (a + 1) n) in
    let test = λ (q : Point). get_or labels (raster_number X.sides q) 0 == k in
    let facts_rest = map (fact_at object squares left labels) (range_with_len (a + 1) n) in
    let here : raster_number X.sides p ≡ a = raster_number-raster_point X.sides a (omega arith) in
    let number : raster_number left.sides (raster_point left.sides a) ≡ a = ap (λ t. raster_number t (raster_point t a)) s ∙ here in
    let point : raster_point left.sides a ≡ p = ap (λ t. raster_point t a) s in
    let one : fact_at object squares left labels a ≡ fact object squares left labels p =
    ap (λ i. fact_of object squares left labels i (raster_point left.sides a)) (sym number) ∙ ap (fact object squares left labels) point in
    let same : test p ≡ (get_or labels a 0 == k) = ap (λ i. get_or labels i 0 == k) here in
    elim (cases_Bool (get_or labels a 0 == k)) [
      | inl t ↦ (
          let filled : at X p ≡ true = seen X labels k a some t (back a (omega arith)) in
          cond-true (get_or labels a 0 == k) (fact_at object squares left labels a ∷ facts_of k facts_rest) (facts_of k facts_rest) t
          ∙ (λ i. one i ∷ r i)
          ∙ sym (ap (λ l. map (fact object squares left labels) (filter test l)) (cond-true (at X p) (p ∷ filter (at X) rest) (filter (at X) rest) filled)
          ∙ ap (map (fact object squares left labels))
          (cond-true (test p) (p ∷ filter test (filter (at X) rest)) (filter test (filter (at X) rest)) (same ∙ t))))
      | inr f ↦ cond-false (get_or labels a 0 == k) (fact_at object squares left labels a ∷ facts_of k facts_rest) (facts_of k facts_rest) f
          ∙ r ∙ sym (ap (map (fact object squares left labels)) (passed (at X) test p rest (same ∙ f)))
    ]

-- the facts of an object are those of the points of its component
pub facts_are : (object : Picture) (squares : List ℕ) (left X : Picture) (labels : List ℕ) (k : ℕ) → left.sides ≡ X.sides → 0 < k → LabelsObject X labels
    → facts_of k (facts object squares left labels) ≡ map (fact object squares left labels) (component X labels k)
facts_are object squares left X labels k s some named =
    ap (λ n. facts_of k (facts_below object squares left labels (box_count n))) s
    ∙ part_of_box object squares left X labels k 0 (box_count X.sides) s some (omega arith) named.background
    ∙ ap (λ ps. map (fact object squares left labels) (filter (λ p. get_or labels (raster_number X.sides p) 0 == k) (filter (at X) ps)))
    (sym (box_points_are X.sides))
