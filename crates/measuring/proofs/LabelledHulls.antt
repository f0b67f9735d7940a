-- The sizes of the hulls of all objects: the corners of an object's rows bound those of its pixels.
-- Labels and lists of rows alone stand here.
use Rattle.std.proofs.Common.{◌≡◌, ◌⊎◌, inl, inr, ℕ, ◌+◌, ◌<◌, ◌≤◌, List, [], ◌∷◌, ◌++◌, length, get_or, ap, sym, ◌∙◌, refl, subst, arith}
use Rattle.std.proofs.Math.IntN.{ℤ, pos, ◌+ℤ◌}
use Rattle.std.proofs.Math.ListN.{get_or-append}
use Rattle.std.proofs.Math.Seq.{get_or-append_seam}
use Rattle.std.proofs.lemmas.Int.{ints}
use Rattle.std.proofs.lemmas.List.{length-append, get_or-map, get_or_default}
use lib.Signed.{◌≤ℤ◌}
use Rattle.shape_terms.specs.Points.{Point, box_count}
use Rattle.measure_terms.specs.Feret.{HasLabel}
use Rattle.measure_terms.specs.Hulls.{Corner, IsCornerOf, IsCornerOfPixel}
use Rattle.measure_terms.specs.HullSizes.{IsHullSize, AreHulls}
use Rattle.measure_terms.specs.HullSizes as Terms
use Rattle.measuring.specs.declared.spot.Spot.{Spot}
use Rattle.measuring.specs.declared.object_row.Row.{Row}
use Rattle.measuring.specs.declared.outline.Outline.{Outline}
use Rattle.measuring.specs.declared.size.HullSize.{HullSize}
use Rattle.measuring.specs.FeretsTold.{spot_point}
use Rattle.measuring.specs.Rows.{row_at, first_spot, last_spot, AreRowsOf}
use Rattle.measuring.specs.Seen.{IsSeen, HaveRows}
use Rattle.measuring.specs.Corners.{AreEndsOf, IsBetween, IsCornerOfRow, IsCornerOfRows}
use Rattle.measuring.specs.Sizes.{hull_told, hulls_told, IsSizeOfRows, HaveSizes}
use Rattle.measuring.proofs.Between.{hull_of_ends}
use Rattle.measuring.proofs.Labelled.{held, some_row}

-- ---- rows and pixels

-- a corner of a row is one of its first or its last pixel
corner_of_row : (S : Point → Type 0) (r : Row) (c : Corner) → S (spot_point (first_spot r)) → S (spot_point (last_spot r)) → IsCornerOfRow r c → IsCornerOf S c
corner_of_row S r c first last h =
    let row : (c.y ≡ pos r.y) ⊎ (c.y ≡ pos r.y +ℤ pos 1) = elim h.row [ inl e ↦ inl e | inr e ↦ inr (omega (arith, ints, e)) ] in
    elim h.column [
      | inl e ↦ record { x = pos r.left; y = pos r.y; pixel = first; corner = record { column = inl e; row = row } }
      | inr e ↦ record { x = pos r.right; y = pos r.y; pixel = last; corner = record { column = inr (omega (arith, ints, e)); row = row } }
    ]

behind : (x l : ℕ) (c : ℤ) → l ≤ x → (c ≡ pos x) ⊎ (c ≡ pos x +ℤ pos 1) → pos l ≤ℤ c
behind x l c h e = elim e [ inl f ↦ omega (arith, ints, h, f) | inr f ↦ omega (arith, ints, h, f) ]

before : (x r : ℕ) (c : ℤ) → x ≤ r → (c ≡ pos x) ⊎ (c ≡ pos x +ℤ pos 1) → c ≤ℤ pos (r + 1)
before x r c h e = elim e [ inl f ↦ omega (arith, ints, h, f) | inr f ↦ omega (arith, ints, h, f) ]

-- the line of a corner of a pixel is one of the two of its row
line_of : (y : ℕ) (c : ℤ) → (c ≡ pos y) ⊎ (c ≡ pos y +ℤ pos 1) → (c ≡ pos y) ⊎ (c ≡ pos (y + 1))
line_of y c e = elim e [ inl f ↦ inl f | inr f ↦ inr (omega (arith, ints, f)) ]

-- a corner of a pixel lies between two of the corners of its row
between_ends : (rows : List Row) (k : ℕ) (s : Spot) (c : Corner) → k < length rows → s.y ≡ (row_at rows k).y → (row_at rows k).left ≤ s.x
    → s.x ≤ (row_at rows k).right
    → IsCornerOfPixel (pos s.x) (pos s.y) c → IsBetween (IsCornerOfRows rows (length rows)) c
between_ends rows k s c l row left right h =
    let r = row_at rows k in
    let y = subst (λ n. (c.y ≡ pos n) ⊎ (c.y ≡ pos (n + 1))) row (line_of s.y c.y h.row) in
    record {
      left = record { x = pos r.left; y = c.y };
      right = record { x = pos (r.right + 1); y = c.y };
      left_in = record { place = k; within = l; corner = record { row = y; column = inl refl } };
      right_in = record { place = k; within = l; corner = record { row = y; column = inr refl } };
      left_row = refl;
      right_row = refl;
      behind = behind s.x r.left c.x left h.column;
      before = before s.x r.right c.x right h.column;
    }

same_coordinates : (s : Spot) (x y : ℤ) → spot_point s ≡ x ∷ y ∷ [] → (pos s.x ≡ x) × (pos s.y ≡ y)
same_coordinates s x y e = (ap (λ (p : Point). get_or p 0 (pos 0)) e, ap (λ (p : Point). get_or p 1 (pos 0)) e)

corner_at : (x y z w : ℤ) (c : Corner) → z ≡ x → w ≡ y → IsCornerOfPixel x y c → IsCornerOfPixel z w c
corner_at x y z w c e f h = subst (λ a. IsCornerOfPixel a w c) (sym e) (subst (λ b. IsCornerOfPixel x b c) (sym f) h)

-- the corners of the rows of an object bound those of its pixels in each line
row_ends : (w h : ℕ) (labels : List ℕ) (k : ℕ) (rows : List Row) → AreRowsOf (IsSeen (w ∷ h ∷ []) labels k (box_count (w ∷ h ∷ []))) rows
    → AreEndsOf (IsCornerOf (HasLabel (w ∷ h ∷ []) labels k)) (IsCornerOfRows rows (length rows))
row_ends w h labels k rows o = record {
  of = λ c a. corner_of_row (HasLabel (w ∷ h ∷ []) labels k) (row_at rows a.place) c (o.first a.place a.within).is (o.last a.place a.within).is a.corner;
  hold = λ c a. (
      let b = held w h labels k rows (a.x ∷ a.y ∷ []) o a.pixel in
      let e = same_coordinates b.spot a.x a.y b.is in
      let i = b.row in
      between_ends rows b.place b.spot c i.place i.on.row i.on.left i.on.right (corner_at a.x a.y (pos b.spot.x) (pos b.spot.y) c e.0 e.1 a.corner));
}

-- ---- sizes

size_is : (w h : ℕ) (labels : List ℕ) (k : ℕ) (rows : List Row) (z : Terms.HullSize) → AreRowsOf (IsSeen (w ∷ h ∷ []) labels k (box_count (w ∷ h ∷ []))) rows
    → IsSizeOfRows rows z
    → IsHullSize (HasLabel (w ∷ h ∷ []) labels k) z
size_is w h labels k rows z o s = record {
  hull = s.hull;
  is = hull_of_ends (IsCornerOf (HasLabel (w ∷ h ∷ []) labels k)) (IsCornerOfRows rows (length rows)) s.hull (row_ends w h labels k rows o) s.is;
  width = s.size.width;
  size = s.size.size;
}

-- one object more
pub one_size_more : (all : List Outline) (n : ℕ) (zs : List HullSize) (o : Outline) (z : HullSize) → n < length all → o ≡ get_or all n o
    → (1 ≤ length o.rows.items → IsSizeOfRows o.rows.items (hull_told z))
    → HaveSizes all n zs → HaveSizes all (n + 1) (zs ++ z ∷ [])
one_size_more all n zs o z within is found h = record {
  count = (let c = h.count in omega (arith, c, length-append zs (z ∷ [])));
  each = λ k p y l some.
      let c = h.count in
      let split : (k ≡ n) ⊎ (k < n) = grind arith in
      elim split [
        | inl e ↦ (
            let same : get_or all k p ≡ o = ap (λ j. get_or all j p) e ∙ get_or_default all n p o within ∙ sym is in
            let rows = ap (λ (a : Outline). a.rows.items) same in
            let last : get_or (zs ++ z ∷ []) k y ≡ z = ap (λ j. get_or (zs ++ z ∷ []) j y) (e ∙ sym c) ∙ get_or-append_seam zs z [] y in
            let one = found (let e = ap length rows in omega (arith, e, some)) in
            subst (λ (r : List Row). IsSizeOfRows r (hull_told (get_or (zs ++ z ∷ []) k y))) (sym rows)
            (subst (λ (a : HullSize). IsSizeOfRows o.rows.items (hull_told a)) (sym last) one))
        | inr m ↦ subst (λ (a : HullSize). IsSizeOfRows (get_or all k p).rows.items (hull_told a)) (sym (get_or-append zs (z ∷ []) y k (omega (arith, m, c))))
            (h.each k p y m some)
      ];
}

pub hulls_are : (w h : ℕ) (labels : List ℕ) (n : ℕ) (all : List Outline) (zs : List HullSize) → HaveRows (w ∷ h ∷ []) labels n (box_count (w ∷ h ∷ [])) all
    → HaveSizes all (length all) zs
    → AreHulls (w ∷ h ∷ []) labels n (hulls_told zs)
hulls_are w h labels n [] zs rows sizes = record { each = λ k d p l has. absurd (let c = rows.count in omega (arith, c, l)) }
hulls_are w h labels n (o ∷ all) [] rows sizes = record { each = λ k d p l has. absurd (let c = sizes.count in omega (arith, c)) }
hulls_are w h labels n (o ∷ all) (z ∷ zs) rows sizes = record {
  each = λ k d p l has.
      let sides = w ∷ h ∷ [] in
      let many = rows.count in
      let count = sizes.count in
      let seen = rows.each k o l in
      let some = some_row w h labels (k + 1) (get_or (o ∷ all) k o).rows.items p seen has in
      let found = sizes.each k o z (omega (arith, many, l)) some in
      let one = size_is w h labels (k + 1) (get_or (o ∷ all) k o).rows.items (hull_told (get_or (z ∷ zs) k z)) seen found in
      let within : k < length (z ∷ zs) = omega (arith, many, count, l) in
      subst (IsHullSize (HasLabel sides labels (k + 1))) (sym (get_or-map hull_told (z ∷ zs) k z d within)) one;
}
