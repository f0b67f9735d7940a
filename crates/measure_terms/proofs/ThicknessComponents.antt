-- The sums of thicknesses by the labels of a picture's object are those of its components: the same points in the same order.
-- Lists of points and labels alone.
use Rattle.std.proofs.Common.{◌≡◌, inl, inr, ◌+◌, ◌<◌, ◌≤◌, ℕ, zero, suc, true, false, List, ◌∷◌, length, map, get_or, refl, sym, ap, ◌∙◌, arith}
use Rattle.std.specs.Prelude.{◌==◌, filter}
use Rattle.std.specs.List.{range_with_len}
use Rattle.std.proofs.lemmas.Bool.{cond-true, cond-false, cases_Bool}
use Rattle.std.proofs.lemmas.List.{same_lists}
use Rattle.shape_terms.specs.Points.{Point, box_count, raster_number, raster_point}
use Rattle.shape_terms.specs.Pictures.{Picture, at}
use Rattle.shape_terms.specs.Parts.{LabelsObject}
use Rattle.shape_terms.proofs.Boxes.{raster_number-raster_point}
use Rattle.shape_terms.proofs.BoxLists.{box_points_are}
use Rattle.measure_terms.specs.Components.{component}
use Rattle.measure_terms.specs.ThicknessColumns.{ThicknessSum, sum_of, labelled, AreThicknessSums, ThicknessSumsComponents}
use Rattle.measure_terms.proofs.ComponentPoints.{seen, passed}

-- the thicknesses at the points with a label as those at object points, found one after the other in a part of the box
part_of_box : (X : Picture) (labels ts : List ℕ) (k a n : ℕ) → 0 < k → a + n ≤ box_count X.sides
    → ((i : ℕ) → i < box_count X.sides → at X (raster_point X.sides i) ≡ false → get_or labels i 0 ≡ 0)
    → map (λ i. get_or ts i 0) (filter (λ i. get_or labels i 0 == k) (range_with_len a n))
    ≡ map (λ p. get_or ts (raster_number X.sides p) 0)
    (filter (λ p. get_or labels (raster_number X.sides p) 0 == k) (filter (at X) (map (raster_point X.sides) (range_with_len a n))))
part_of_box X labels ts k a zero some l back = refl
part_of_box X labels ts k a (suc n) some l back =
    let r = part_of_box X labels ts k (a + 1) n some (omega arith) back in
    let p = raster_point X.sides a in
    let rest = map (raster_point X.sides) (range_with_len (a + 1) n) in
    let number = λ (i : ℕ). get_or labels i 0 == k in
    let test = λ (q : Point). get_or labels (raster_number X.sides q) 0 == k in
    let thick = λ (q : Point). get_or ts (raster_number X.sides q) 0 in
    let places = filter number (range_with_len (a + 1) n) in
    let here : raster_number X.sides p ≡ a = raster_number-raster_point X.sides a (omega arith) in
    let one : get_or ts a 0 ≡ thick p = ap (λ i. get_or ts i 0) (sym here) in
    let same : test p ≡ number a = ap number here in
    elim (cases_Bool (get_or labels a 0 == k)) [
      | inl t ↦ (
          let filled : at X p ≡ true = seen X labels k a some t (back a (omega arith)) in
          ap (map (λ i. get_or ts i 0)) (cond-true (number a) (a ∷ places) places t)
          ∙ (λ i. one i ∷ r i)
          ∙ sym (ap (λ l. map thick (filter test l)) (cond-true (at X p) (p ∷ filter (at X) rest) (filter (at X) rest) filled)
          ∙ ap (map thick) (cond-true (test p) (p ∷ filter test (filter (at X) rest)) (filter test (filter (at X) rest)) (same ∙ t))))
      | inr f ↦ ap (map (λ i. get_or ts i 0)) (cond-false (number a) (a ∷ places) places f)
          ∙ r ∙ sym (ap (map thick) (passed (at X) test p rest (same ∙ f)))
    ]

-- the thicknesses at the points with a label are those at the points of the component
thicknesses_are : (X : Picture) (labels ts : List ℕ) (k : ℕ) → 0 < k → LabelsObject X labels
    → map (λ i. get_or ts i 0) (labelled labels k (box_count X.sides)) ≡ map (λ p. get_or ts (raster_number X.sides p) 0) (component X labels k)
thicknesses_are X labels ts k some named =
    part_of_box X labels ts k 0 (box_count X.sides) some (omega arith) named.background
    ∙ ap (λ ps. map (λ p. get_or ts (raster_number X.sides p) 0) (filter (λ p. get_or labels (raster_number X.sides p) 0 == k) (filter (at X) ps)))
    (sym (box_points_are X.sides))

pub sums_measure : (X : Picture) (labels : List ℕ) (n : ℕ) (ts : List ℕ) (ss : List ThicknessSum) → LabelsObject X labels
    → AreThicknessSums X.sides labels n ts ss → ThicknessSumsComponents X labels n ts ss
sums_measure X labels n ts ss named h = record {
  count = h.count;
  each = λ k d l. h.each k d l ∙ ap sum_of (thicknesses_are X labels ts (k + 1) (omega arith) named);
}

-- there is one list of sums
pub one_list : (sides labels : List ℕ) (n : ℕ) (ts : List ℕ) (ss us : List ThicknessSum) → AreThicknessSums sides labels n ts ss
    → AreThicknessSums sides labels n ts us → ss ≡ us
one_list sides labels n ts ss us a b =
    let m = a.count in
    same_lists ss us (m ∙ sym b.count) (λ k d l. a.each k d (omega (arith, m, l)) ∙ sym (b.each k d (omega (arith, m, l))))
