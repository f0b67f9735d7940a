-- The labels of a picture's object in the order of first points are determined.
-- Lists and components alone.
use Rattle.std.proofs.Common.{◌≡◌, inl, inr, ℕ, zero, suc, ◌<◌, ◌≤◌, refl, sym, ap, ◌∙◌, subst, arith, List, [], ◌∷◌, length, get_or}
use Rattle.std.proofs.lemmas.Bool.{cases_Bool, cases_lt}
use Rattle.shape_terms.specs.Points.{box_count, raster_number, raster_point}
use Rattle.shape_terms.specs.Pictures.{Picture, at}
use Rattle.shape_terms.specs.Parts.{Object, LabelsObject}
use Rattle.shape_terms.proofs.Boxes.{raster_number-raster_point}
use Rattle.shape_terms.proofs.PartCount.{along_path}

-- two lists of one length with the same elements are one
pub same_list : {A : Type 0} (d : A) (xs ys : List A) → length xs ≡ length ys → ((i : ℕ) → i < length xs → get_or xs i d ≡ get_or ys i d) → xs ≡ ys
same_list d [] [] e h = refl
same_list d [] (y ∷ ys) e h = absurd (omega arith)
same_list d (x ∷ xs) [] e h = absurd (omega arith)
same_list d (x ∷ xs) (y ∷ ys) e h =
    let first = h 0 (omega arith) in
    let rest = same_list d xs ys (omega arith) (λ i l. h (suc i) (omega arith)) in
    λ k. first k ∷ rest k

module _ (X : Picture) where
  -- an object point with a label, by its place
  object_at : (labels : List ℕ) → LabelsObject X labels → (i : ℕ) → i < box_count X.sides → 1 ≤ get_or labels i 0 → Object X (raster_point X.sides i)
  object_at labels l i b some = elim (cases_Bool (at X (raster_point X.sides i))) [
    | inl t ↦ t
    | inr f ↦ (let z = l.background i b f in absurd (omega arith))
  ]

  some_label : (labels : List ℕ) (l : LabelsObject X labels) (i : ℕ) → i < box_count X.sides → Object X (raster_point X.sides i) → 1 ≤ get_or labels i 0
  some_label labels l i b o =
      let r = (l.parts.1.in_range (raster_point X.sides i) o).0 in
      let e = ap (λ j. get_or labels j 0) (raster_number-raster_point X.sides i b) in
      omega (arith, r, e)

  -- two places with one label have one label by other labels too
  carried : (ls ms : List ℕ) → LabelsObject X ls → LabelsObject X ms → (i k : ℕ) → i < box_count X.sides → k < box_count X.sides
      → Object X (raster_point X.sides i) → Object X (raster_point X.sides k) → get_or ls k 0 ≡ get_or ls i 0 → get_or ms k 0 ≡ get_or ms i 0
  carried ls ms l m i k bi bk oi ok e =
      let place = λ (xs : List ℕ) (j : ℕ) (b : j < box_count X.sides). ap (λ n. get_or xs n 0) (raster_number-raster_point X.sides j b) in
      let path = l.parts.1.connected (raster_point X.sides k) (raster_point X.sides i) ok oi (place ls k bk ∙ e ∙ sym (place ls i bi)) in
      sym (place ms k bk) ∙ along_path (λ p. get_or ms (raster_number X.sides p) 0) m.parts.1.adjacent path ∙ place ms i bi

  -- no label is less than the other, where those before it are the same
  not_less : (ls ms : List ℕ) → LabelsObject X ls → LabelsObject X ms → (i : ℕ) → i < box_count X.sides → ((k : ℕ) → k < i → get_or ls k 0 ≡ get_or ms k 0)
      → get_or ls i 0 < get_or ms i 0 → ⊥
  not_less ls ms l m i b same less =
      let object = object_at ms m i b (omega arith) in
      let some = some_label ls l i b object in
      let before = m.ordered i (get_or ls i 0) some less in
      let k = before.0 in
      let early = before.1 in
      let there = before.2 in
      let e : get_or ls k 0 ≡ get_or ls i 0 = same k early ∙ there in
      let other = object_at ls l k (omega (arith, early, b)) (omega (arith, e, some)) in
      let c = carried ls ms l m i k b (omega (arith, early, b)) object other e in
      omega (arith, c, there, less)

  below : (ls ms : List ℕ) → LabelsObject X ls → LabelsObject X ms → (n : ℕ) → n ≤ box_count X.sides → (i : ℕ) → i < n → get_or ls i 0 ≡ get_or ms i 0
  below ls ms l m zero few i h = absurd (omega arith)
  below ls ms l m (suc n) few i h = elim (cases_lt i n) [
    | inl b ↦ below ls ms l m n (omega arith) i b
    | inr e ↦ (
        let same : (k : ℕ) → k < n → get_or ls k 0 ≡ get_or ms k 0 = λ k b. below ls ms l m n (omega arith) k b in
        let q : n ≡ i = omega arith in
        let one : get_or ls n 0 ≡ get_or ms n 0 = at_one (not_less ls ms l m n (omega arith) same) (not_less ms ls m l n (omega arith) (λ k b. sym (same k b)))
        in
        subst (λ (j : ℕ). get_or ls j 0 ≡ get_or ms j 0) q one)
  ]
    where
      at_one : {x y : ℕ} → (x < y → ⊥) → (y < x → ⊥) → x ≡ y
      at_one {x} {y} h k = elim (cases_lt x y) [ inl a ↦ absurd (h a) | inr a ↦ elim (cases_lt y x) [ inl b ↦ absurd (k b) | inr b ↦ omega arith ] ]

  pub labels_once : (ls ms : List ℕ) → LabelsObject X ls → LabelsObject X ms → ls ≡ ms
  labels_once ls ms l m = same_list 0 ls ms (l.filled ∙ sym m.filled) (λ i b. below ls ms l m (box_count X.sides) (omega arith) i (omega (arith, b, l.filled)))
