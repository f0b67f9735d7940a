-- Moments by the labels of a picture's object are those of its components, and each box with labels has one list of moments.
-- Lists of points and labels alone.
use Rattle.std.proofs.Common.{◌≡◌, inl, inr, ℕ, suc, ◌+◌, ◌<◌, Bool, true, List, [], ◌∷◌, length, get_or, cond, subst, sym, ap, ◌∙◌, arith, refl}
use Rattle.std.specs.Prelude.{◌==◌, filter}
use Rattle.std.proofs.lemmas.Bool.{cond-true, cond-false, cases_Bool}
use Rattle.std.proofs.lemmas.List.{same_lists}
use Rattle.shape_terms.specs.Points.{raster_number, box_count, box_points}
use Rattle.shape_terms.specs.Pictures.{Picture, at}
use Rattle.shape_terms.specs.Parts.{LabelsObject}
use Rattle.shape_terms.proofs.Boxes.{raster_number-raster_point}
use Rattle.shape_terms.proofs.BoxLists.{get_or-box_points, length-box_points}
use Rattle.measure_terms.specs.Components.{component}
use Rattle.measure_terms.specs.Measures.{Measures, greatest}
use Rattle.measure_terms.specs.Tables.{IsTable}
use Rattle.measure_terms.specs.Moments.{Moments, moments_of, labelled, AreMoments, MomentsComponents}
use Rattle.measure_terms.proofs.ComponentPoints.{seen}
use Rattle.measure_terms.proofs.TableOfComponents.{table_length}

-- a filter changes nothing before a stricter one
stricter : {X : Type 0} (p q : X → Bool) (xs : List X) → ((i : ℕ) (d : X) → i < length xs → q (get_or xs i d) ≡ true → p (get_or xs i d) ≡ true)
    → filter q (filter p xs) ≡ filter q xs
stricter p q [] h = refl
stricter p q (x ∷ xs) h =
    let rest = stricter p q xs (λ i d l. h (suc i) d (omega (arith, l))) in
    elim (cases_Bool (p x)) [
      | inl t ↦ ap (filter q) (cond-true (p x) (x ∷ filter p xs) (filter p xs) t) ∙ kept (q x) rest
      | inr f ↦ elim (cases_Bool (q x)) [
        | inl t ↦ (let u = h 0 x (omega arith) t in cc)
        | inr g ↦ ap (filter q) (cond-false (p x) (x ∷ filter p xs) (filter p xs) f) ∙ rest ∙ sym (cond-false (q x) (x ∷ filter q xs) (filter q xs) g)
      ]
    ]
  where
    kept : (b : Bool) → filter q (filter p xs) ≡ filter q xs
        → cond b (x ∷ filter q (filter p xs)) (filter q (filter p xs)) ≡ cond b (x ∷ filter q xs) (filter q xs)
    kept b e = ap (λ ys. cond b (x ∷ ys) ys) e

-- the points with a label that is not 0 are those of the component
labelled_are : (X : Picture) (labels : List ℕ) (k : ℕ) → LabelsObject X labels → component X labels (k + 1) ≡ labelled X.sides labels (k + 1)
labelled_are X labels k named = stricter (at X) (λ p. get_or labels (raster_number X.sides p) 0 == k + 1) (box_points X.sides) (λ i d l t.
    let m : i < box_count X.sides = omega (arith, l, length-box_points X.sides) in
    let here = get_or-box_points X.sides i d m in
    let number = ap (raster_number X.sides) here ∙ raster_number-raster_point X.sides i m in
    let label = ap (λ j. get_or labels j 0 == k + 1) (sym number) ∙ t in
    ap (at X) here ∙ seen X labels (k + 1) i (omega arith) label (named.background i m))

pub moments_measure : (X : Picture) (labels : List ℕ) (n : ℕ) (ms : List Moments) → LabelsObject X labels → AreMoments X.sides labels n ms
    → MomentsComponents X labels n ms
moments_measure X labels n ms named h = record {
  count = h.count;
  each = λ k d l. h.each k d l ∙ ap moments_of (sym (labelled_are X labels k named));
}

-- the moments by the labels of a table are those of the components
pub moments_table : (X left : Picture) (squares : List ℕ) (table : List Measures) (ms : List Moments) → (h : IsTable X squares left table)
    → AreMoments X.sides h.labels (greatest h.labels) ms
    → MomentsComponents X h.labels (length table) ms
moments_table X left squares table ms h m =
    subst (λ n. MomentsComponents X h.labels n ms) (sym (table_length X left squares table h)) (moments_measure X h.labels (greatest h.labels) ms h.named m)

pub moments_once : (sides labels : List ℕ) (n : ℕ) (ms others : List Moments) → AreMoments sides labels n ms → AreMoments sides labels n others → ms ≡ others
moments_once sides labels n ms others h g =
    let a = h.count in
    let b = g.count in
    same_lists ms others (a ∙ sym b) (λ k d l. let m : k < n = omega (arith, l, a) in h.each k d m ∙ sym (g.each k d m))
