-- The table of a picture has a row for each component, and each row has the measures of its component.
-- Labels and lists of points alone stand here.
use Rattle.std.proofs.Common.{◌≡◌, ◌⊎◌, inl, inr, ◌+◌, ◌<◌, ◌≤◌, ℕ, zero, suc, true, List, [], ◌∷◌, length, map, get_or, refl, sym, ap, ◌∙◌, arith, subst}
use Rattle.std.specs.Prelude.{◌==◌}
use Rattle.std.specs.List.{Contains}
use Rattle.std.proofs.lemmas.Bool.Decides.{nat_tests}
use Rattle.std.proofs.lemmas.Bool.{and_parts}
use Rattle.shape_terms.specs.Points.{Point, in_box, box_points, box_count, raster_number, raster_point}
use Rattle.shape_terms.specs.Pictures.{Picture, at, object_points}
use Rattle.shape_terms.specs.Parts.{Object, NamesParts, LabelsObject}
use Rattle.shape_terms.specs.Adjacency.{Near}
use Rattle.shape_terms.proofs.Boxes.{raster_number-raster_point, raster_point-raster_number, raster_below}
use Rattle.shape_terms.proofs.BoxLists.{get_or-box_points, length-box_points}
use Rattle.shape_terms.proofs.Members.{Contains-filter}
use Rattle.measure_terms.specs.Facts.{facts}
use Rattle.measure_terms.specs.Measures.{Measures, measures_of, greatest}
use Rattle.measure_terms.specs.Tables.{IsTable}
use Rattle.measure_terms.specs.Feret.{Feret, HasLabel, AreFerets}
use Rattle.measure_terms.specs.Components.{component, AreMeasuresOf, MeasuresComponents, FeretsComponents}
use Rattle.measure_terms.proofs.ComponentFerets.{filtered, same_feret}
use Rattle.measure_terms.proofs.OneMore.{below_greatest}
use Rattle.measure_terms.proofs.TableRows.{length-rows, row_is}
use Rattle.measure_terms.proofs.ComponentPoints.{fact, facts_are, seen}
use Rattle.measure_terms.proofs.ComponentMeasures.{measures_are}

-- ---- the number of components

greatest_at_more : (x : ℕ) (xs : List ℕ) → (1 ≤ greatest xs → (i : ℕ) × (i < length xs) × (get_or xs i 0 ≡ greatest xs)) → 1 ≤ greatest (x ∷ xs)
    → (i : ℕ) × (i < length (x ∷ xs)) × (get_or (x ∷ xs) i 0 ≡ greatest (x ∷ xs))
greatest_at_more x xs rest some =
    let split : (greatest xs ≤ x) ⊎ (x < greatest xs) = grind arith in
    elim split [
      | inl l ↦ (0, omega arith, omega (arith, l))
      | inr l ↦ (let r = rest (omega (arith, l)) in let e = r.2 in (suc r.0, omega (arith, r.1), omega (arith, e, l)))
    ]

-- some label is the greatest
greatest_at : (xs : List ℕ) → 1 ≤ greatest xs → (i : ℕ) × (i < length xs) × (get_or xs i 0 ≡ greatest xs)
greatest_at [] some = absurd (omega arith)
greatest_at (x ∷ xs) some = greatest_at_more x xs (greatest_at xs) some

abbrev label_of : Picture → List ℕ → Point → ℕ
label_of X labels p = get_or labels (raster_number X.sides p) 0

no_more : (X : Picture) (labels : List ℕ) (n : ℕ) → LabelsObject X labels → NamesParts Near (Object X) n (label_of X labels) → greatest labels ≤ n
no_more X labels n named names =
    let split : (greatest labels ≡ 0) ⊎ (1 ≤ greatest labels) = grind arith in
    elim split [
      | inl z ↦ omega (arith, z)
      | inr some ↦ (
          let g = greatest_at labels some in
          let l : g.0 < box_count X.sides = omega (arith, g.1, named.filled) in
          let is = g.2 in
          let t : (get_or labels g.0 0 == greatest labels) ≡ true = grind (arith, nat_tests) in
          let object = seen X labels (greatest labels) g.0 some t (named.background g.0 l) in
          let range = (names.in_range (raster_point X.sides g.0) object).1 in
          let number = ap (λ i. get_or labels i 0) (raster_number-raster_point X.sides g.0 l) in
          omega (arith, is, range, number))
    ]

no_fewer : (X : Picture) (labels : List ℕ) (n : ℕ) → NamesParts Near (Object X) n (label_of X labels) → n ≤ greatest labels
no_fewer X labels zero names = omega arith
no_fewer X labels (suc n) names =
    let u = names.used (suc n) (omega arith) (omega arith) in
    let e = u.2 in
    omega (arith, e, below_greatest labels (raster_number X.sides u.0))

-- ---- components

box_has : (X : Picture) (p : Point) → Object X p → Contains (box_points X.sides) p
box_has X p o =
    let inside = (and_parts (in_box X.sides p) _ o).0 in
    let l = raster_below X.sides p inside in (
      raster_number X.sides p,
      omega (arith, length-box_points X.sides, l),
      get_or-box_points X.sides (raster_number X.sides p) p l
          ∙ raster_point-raster_number X.sides p inside,
    )

-- a component has a point
some_point : (X : Picture) (labels : List ℕ) (n k : ℕ) → NamesParts Near (Object X) n (label_of X labels) → k < n
    → (p : Point) × Contains (component X labels (k + 1)) p
some_point X labels n k names l =
    let u = names.used (k + 1) (omega arith) (omega arith) in
    let e = u.2 in
    let t : (label_of X labels u.0 == k + 1) ≡ true = grind (arith, nat_tests) in
    (u.0, Contains-filter (λ p. label_of X labels p == k + 1) (object_points X) u.0 (Contains-filter (at X) (box_points X.sides) u.0 (box_has X u.0 u.1) u.1) t)

some_measures : (object : Picture) (squares : List ℕ) (left : Picture) (labels : List ℕ) (ps : List Point) (p : Point) → Contains ps p
    → AreMeasuresOf object (λ q. get_or squares (raster_number left.sides q) 0) left ps (measures_of (map (fact object squares left labels) ps))
some_measures object squares left labels [] p c = absurd (omega (arith, c.1))
some_measures object squares left labels (q ∷ ps) p c = measures_are object squares left labels q ps

-- ---- the table

-- it has a row for each label
pub table_length : (X left : Picture) (squares : List ℕ) (table : List Measures) → (h : IsTable X squares left table) → length table ≡ greatest h.labels
table_length X left squares table h = ap length h.rows ∙ length-rows (greatest h.labels) (facts X squares left h.labels)

pub table_measures : (X left : Picture) (squares : List ℕ) (table : List Measures) → left.sides ≡ X.sides → IsTable X squares left table
    → MeasuresComponents X squares left table
table_measures X left squares table s h =
    let labels = h.labels in
    let fs = facts X squares left labels in
    let n = h.named.parts.0 in
    let names = h.named.parts.1 in
    let len = table_length X left squares table h in
    let same : n ≡ length table = omega (arith, len, no_more X labels n h.named names, no_fewer X labels n names) in
    record {
      labels = labels;
      named = h.named;
      all = subst (λ (m : ℕ). NamesParts Near (Object X) m (label_of X labels)) same names;
      each = λ k d l.
          let some = some_point X labels n k names (omega (arith, same, l)) in
          let row = ap (λ ms. get_or ms k d) h.rows ∙ row_is (greatest labels) fs k d (omega (arith, len, l))
          ∙ ap measures_of (facts_are X squares left X labels (k + 1) s (omega arith) h.named) in
          let m = some_measures X squares left labels (component X labels (k + 1)) some.0 some.1 in
          let m2 = subst (λ (sides : List ℕ). AreMeasuresOf X (λ q. get_or squares (raster_number sides q) 0) left (component X labels (k + 1))
          (measures_of (map (fact X squares left labels) (component X labels (k + 1))))) s m in
          subst (λ (x : Measures). AreMeasuresOf X (λ q. get_or squares (raster_number X.sides q) 0) left (component X labels (k + 1)) x) (sym row) m2;
    }

-- the measures are told with the labels of the table
pub labels_kept : (X left : Picture) (squares : List ℕ) (table : List Measures) (s : left.sides ≡ X.sides) (h : IsTable X squares left table)
    → (table_measures X left squares table s h).labels ≡ h.labels
unfolding table_measures
labels_kept X left squares table s h = refl

-- ---- Feret diameters

-- a point of a component has its label
pub has_label : (X : Picture) (labels : List ℕ) (k : ℕ) (p : Point) → Contains (component X labels (k + 1)) p → HasLabel X.sides labels (k + 1) p
has_label X labels k p c =
    let a = filtered (λ q. label_of X labels q == k + 1) (object_points X) p c in
    let b = filtered (at X) (box_points X.sides) p a.0 in
    let t = a.1 in
    record { inside = (and_parts (in_box X.sides p) _ b.1).0; label = grind (arith, nat_tests) }

-- and a point with the label is of the component
pub in_component : (X : Picture) (labels : List ℕ) (k : ℕ) (p : Point) → LabelsObject X labels → HasLabel X.sides labels (k + 1) p
    → Contains (component X labels (k + 1)) p
in_component X labels k p named h =
    let e = h.label in
    let t : (label_of X labels p == k + 1) ≡ true = grind (arith, nat_tests) in
    let filled = seen X labels (k + 1) (raster_number X.sides p) (omega arith) t (named.background (raster_number X.sides p) (raster_below X.sides p h.inside))
    in
    let object = ap (at X) (sym (raster_point-raster_number X.sides p h.inside)) ∙ filled in
    Contains-filter (λ q. label_of X labels q == k + 1) (object_points X) p (Contains-filter (at X) (box_points X.sides) p (box_has X p object) object) t

-- the Feret diameters by the labels of a table are those of the components
pub ferets_measure : (square : Point → Point → ℕ) (X left : Picture) (squares : List ℕ) (table : List Measures) (ferets : List Feret)
    → (h : IsTable X squares left table)
    → AreFerets square X.sides h.labels (greatest h.labels) ferets → FeretsComponents square X h.labels (length table) ferets
ferets_measure square X left squares table ferets h f =
    let labels = h.labels in
    let fs = facts X squares left labels in
    let n = h.named.parts.0 in
    let names = h.named.parts.1 in
    let len = table_length X left squares table h in
    let same : n ≡ length table = omega (arith, len, no_more X labels n h.named names, no_fewer X labels n names) in
    record {
      each = λ k d l.
          let some = some_point X labels n k names (omega (arith, same, l)) in
          let one = f.each k d some.0 (omega (arith, len, l)) (has_label X labels k some.0 some.1) in
          same_feret square X.sides (HasLabel X.sides labels (k + 1)) (Contains (component X labels (k + 1))) (get_or ferets k d)
          (λ p. in_component X labels k p h.named) (has_label X labels k) one;
    }

-- ---- points

-- each label up to the greatest is that of a point
pub some_of_labels : (X : Picture) (labels : List ℕ) (k : ℕ) → LabelsObject X labels → k < greatest labels
    → (p : Point) × Contains (component X labels (k + 1)) p
some_of_labels X labels k named l =
    let n = named.parts.0 in
    let names = named.parts.1 in
    let m = no_more X labels n named names in
    some_point X labels n k names (omega (arith, l, m))
