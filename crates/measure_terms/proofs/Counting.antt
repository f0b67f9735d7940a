-- Contours that bound the components of a set are as many as these: each point is labelled with the place of its component's contour.
-- Nothing is used of contours but that they bound, that none stands twice in the list and that each has a crack.
use Rattle.std.proofs.Common.{◌≡◌, ◌≢◌, ℕ, zero, suc, ◌<◌, ◌≤◌, refl, sym, ◌∙◌, ap, subst, arith, List, [], length, get_or}
use Rattle.std.specs.Prelude.{Contains, AllPairs}
use Rattle.std.proofs.lemmas.List.Elements.{Contains-get_or}
use Rattle.std.proofs.lemmas.List.{get_or_default}
use native.Mathlib.Decide.{dec_lt}
use Rattle.shape_terms.specs.Points.{Point}
use Rattle.shape_terms.specs.Adjacency.{Side}
use Rattle.shape_terms.specs.Contours.{Crack}
use Rattle.shape_terms.specs.Parts.{Connected, NamesParts, HasParts}
use Rattle.shape_terms.proofs.Paths.{starts_in, joined_to, turned_back}
use Rattle.shape_terms.proofs.AdjacencySymmetric.{side_sym}
use Rattle.measure_terms.specs.ComponentContours.{over, BoundComponents}

-- equal elements of a list without repetition stand at one place
same_index : {A : Type 0} (xs : List A) (d : A) → AllPairs (λ x y. x ≢ y) xs → (i j : ℕ) → i < length xs → j < length xs → get_or xs i d ≡ get_or xs j d → i ≡ j
same_index xs d h i j l m e = elim (dec_lt i j) [
  | yes a ↦ absurd (h i j d a m e)
  | no n ↦ elim (dec_lt j i) [
    | yes b ↦ absurd (h j i d b l (sym e))
    | no k ↦ omega arith
  ]
]

module _ (contours : List (List Crack)) (Y : Point → Type 0) (decided : (p : Point) → Dec (Y p)) (b : BoundComponents contours Y)
    (once : AllPairs (λ x y. x ≢ y) contours) (some : (xs : List Crack) → Contains contours xs → (c : Crack) × Contains xs c) where
  -- the place of the contour of a point's component
  place : (q : Point) → Y q → ℕ
  place q y = (b.each q y).1.0

  place_below : (q : Point) (y : Y q) → place q y < length contours
  unfolding place
  place_below q y = (b.each q y).1.1

  place_is : (q : Point) (y : Y q) → get_or contours (place q y) [] ≡ (b.each q y).0
  unfolding place
  place_is q y = get_or_default contours (place q y) [] (b.each q y).0 (place_below q y) ∙ (b.each q y).1.2

  label_by : (q : Point) → Dec (Y q) → ℕ
  label_by q (yes y) = suc (place q y)
  label_by q (no n) = 0

  label : Point → ℕ
  label q = label_by q (decided q)

  labelled : (q : Point) → Y q → (y : Y q) × (label q ≡ suc (place q y))
  unfolding label label_by
  labelled q y = by (decided q)
    where
      by : (d : Dec (Y q)) → (y : Y q) × (label_by q d ≡ suc (place q y))
      by (yes z) = (z, refl)
      by (no n) = absurd (n y)

  -- joined points have one contour
  joined_same : (p q : Point) (y : Y p) (z : Y q) → Connected Side Y p q → (b.each p y).0 ≡ (b.each q z).0
  joined_same p q y z c =
      let s = b.each p y in
      let t = b.each q z in
      b.apart s.0 t.0 s.1 t.1 s.2.0 t.2.0 s.2.1 t.2.1 (joined_to (turned_back side_sym s.2.2) (joined_to c t.2.2))

  joined_label : (p q : Point) → Y p → Y q → Connected Side Y p q → label p ≡ label q
  joined_label p q y z c =
      let (u, e) = labelled p y in
      let (v, f) = labelled q z in
      let g = place_is p u ∙ (joined_same p q u v c ∙ sym (place_is q v)) in
      let i = same_index contours [] once (place p u) (place q v) (place_below p u) (place_below q v) g in
      e ∙ (ap suc i ∙ sym f)

  same_joined : (p q : Point) (y : Y p) (z : Y q) → (b.each p y).0 ≡ (b.each q z).0 → Connected Side Y p q
  same_joined p q y z e =
      let s = b.each p y in
      let t = b.each q z in
      let i = subst (λ xs. Contains xs t.2.0) (sym e) t.2.1 in
      joined_to s.2.2 (joined_to (b.along s.0 s.1 s.2.0 t.2.0 s.2.1 i) (turned_back side_sym t.2.2))

  over_in : (xs : List Crack) → Contains contours xs → (c : Crack) → Contains xs c → Y (over c)
  over_in xs i c j = starts_in (b.along xs i c c j j)

  named : NamesParts Side Y (length contours) label
  named = record {
    in_range = λ p y. (let (u, e) = labelled p y in let l = place_below p u in (omega arith, omega arith));
    used = used;
    adjacent = λ p q y z s. joined_label p q y z (Connected.onward y s (Connected.here z));
    connected = λ p q y z e. (let (u, f) = labelled p y in let (v, g) = labelled q z in
        let i : place p u ≡ place q v = omega arith in
        same_joined p q u v (sym (place_is p u) ∙ (ap (λ k. get_or contours k []) i ∙ place_is q v)));
  }
    where
      used : (k : ℕ) → 1 ≤ k → k ≤ length contours → (p : Point) × Y p × (label p ≡ k)
      used zero l m = absurd (omega arith)
      used (suc k) l m =
          let xs = get_or contours k [] in
          let i : Contains contours xs = Contains-get_or contours k [] (omega arith) in
          let (c, j) = some xs i in
          let y = over_in xs i c j in
          let (u, e) = labelled (over c) y in
          let t = b.each (over c) u in
          let g : xs ≡ t.0 = b.apart xs t.0 i t.1 c t.2.0 j t.2.1 t.2.2 in
          let n : place (over c) u ≡ k =
          same_index contours [] once (place (over c) u) k (place_below (over c) u) (omega arith) (place_is (over c) u ∙ sym g) in
          (over c, y, e ∙ ap suc n)

  pub as_many : HasParts Side Y (length contours)
  as_many = (label, named)
