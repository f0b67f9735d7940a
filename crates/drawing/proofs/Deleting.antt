-- The picture of the deleted points: what one more line changes, and which points are left.
-- Laws of lines and pictures; the program stands in none.
use Rattle.std.proofs.Common.{◌≡◌, ◌≢◌, inl, inr, ℕ, zero, suc, Bool, true, false, List, [], ◌∷◌, ◌++◌, map, length, get_or, refl, ap, sym, subst, ◌∙◌}
use Rattle.std.specs.Prelude.{IsTrue, not, ◌&&◌, ◌||◌, filter, filter_map, replicate}
use Rattle.std.specs.List.{list_any}
use Rattle.std.specs.Ordering.{int_eq}
use Rattle.std.specs.Cmp.Lexicographic.{pointwise}
use Rattle.std.proofs.lemmas.Bool.{cases_Bool, cond-true, cond-false}
use Rattle.std.proofs.lemmas.List.Folds.{list_any-append}
use Rattle.std.proofs.lemmas.List.{length-replicate}
use Rattle.shape_terms.specs.Points.{Point, in_box, box_count, raster_number}
use Rattle.shape_terms.specs.Pictures.{Picture, at, blank, with_value}
use Rattle.shape_terms.proofs.OneValue.{with_value_picture, value_there, value_elsewhere}
use Rattle.report_terms.specs.Lines.{Line}
use Rattle.text_terms.proofs.ListPushes.{filter_map-same, filter_map-push}
use Rattle.std.proofs.lemmas.List.Elements.{filter-append, filter_map-append}
use Rattle.report_lines.proofs.SamePoints.{same_yes, same_only, same_not}
use Rattle.drawing.specs.declared.pixels.Pixel as Program
use Rattle.drawing.specs.Object.{Pixel, pixels, pixel_of}
use Rattle.drawing.specs.Seen.{flat, flats, all_pixels}
use Rattle.report_lines.specs.Said.{deleted_point, is_deleted}
use Rattle.drawing.specs.Skeleton.{left}
use Rattle.drawing.specs.Standing.{HasDeleted}

-- ---- one more line

or_false : (a b : Bool) → b ≡ false → (a || b) ≡ a
or_false true b e = refl
or_false false b e = e

or_true : (a b : Bool) → b ≡ true → (a || b) ≡ true
or_true true b e = refl
or_true false b e = e

deleted_same : (lines : List Line) (l : Line) (p : Point) → filter_map deleted_point (l ∷ []) ≡ [] → is_deleted (lines ++ l ∷ []) p ≡ is_deleted lines p
deleted_same lines l p e = ap (list_any (λ q. pointwise int_eq p q)) (filter_map-same deleted_point lines l e)

deleted_push : (lines : List Line) (q p : Point)
    → is_deleted (lines ++ Line.Del q ∷ []) p ≡ (is_deleted lines p || list_any (λ r. pointwise int_eq p r) (q ∷ []))
deleted_push lines q p =
    ap (list_any (λ r. pointwise int_eq p r)) (filter_map-push deleted_point lines (Line.Del q) q refl)
    ∙ list_any-append (λ r. pointwise int_eq p r) (filter_map deleted_point lines) (q ∷ [])

any_one : (b : Bool) → (b || false) ≡ b
any_one true = refl
any_one false = refl

deleted_other : (lines : List Line) (q p : Point) → p ≢ q → is_deleted (lines ++ Line.Del q ∷ []) p ≡ is_deleted lines p
deleted_other lines q p n = deleted_push lines q p ∙ or_false _ _ (any_one (pointwise int_eq p q) ∙ same_not p q n)

deleted_there : (lines : List Line) (q p : Point) → p ≡ q → is_deleted (lines ++ Line.Del q ∷ []) p ≡ true
deleted_there lines q p e = deleted_push lines q p ∙ or_true _ _ (any_one (pointwise int_eq p q) ∙ same_yes p q e)

all_false : (n i : ℕ) → get_or (replicate n false) i false ≡ false
all_false zero i = refl
all_false (suc n) zero = refl
all_false (suc n) (suc i) = all_false n i

-- no line, and a picture without points
pub none_deleted : (sides : List ℕ) → length sides ≡ 2 → HasDeleted sides [] (blank sides)
none_deleted sides two = record {
  picture = record { axes = two; filled = length-replicate (box_count sides) false };
  box = refl;
  value = λ p h. ap (λ b. b && get_or (replicate (box_count sides) false) (raster_number sides p) false) h
      ∙ all_false (box_count sides) (raster_number sides p);
}

-- a line that deletes no point
pub keeps_deleted : (sides : List ℕ) (lines : List Line) (l : Line) (X : Picture) → filter_map deleted_point (l ∷ []) ≡ [] → HasDeleted sides lines X
    → HasDeleted sides (lines ++ l ∷ []) X
keeps_deleted sides lines l X e h = record {
  picture = h.picture;
  box = h.box;
  value = λ p i. h.value p i ∙ sym (deleted_same lines l p e);
}

-- a line that deletes a point outside the box
pub deletes_outside : (sides : List ℕ) (lines : List Line) (q : Point) (X : Picture) → in_box X.sides q ≡ false → HasDeleted sides lines X
    → HasDeleted sides (lines ++ Line.Del q ∷ []) X
deletes_outside sides lines q X out h = record {
  picture = h.picture;
  box = h.box;
  value = λ p i. h.value p i
      ∙ sym (deleted_other lines q p (λ e. let f : in_box X.sides q ≡ true = ap (λ s. in_box s q) h.box ∙ ap (in_box sides) (sym e) ∙ i in let z = sym f
      ∙ out in cc));
}

-- a line that deletes a point of the box
pub deletes : (sides : List ℕ) (lines : List Line) (q : Point) (X : Picture) → IsTrue (in_box X.sides q) → HasDeleted sides lines X
    → HasDeleted sides (lines ++ Line.Del q ∷ []) (with_value X q true)
deletes sides lines q X inside h = record {
  picture = with_value_picture 2 X q true h.picture;
  box = h.box;
  value = λ p i. elim (cases_Bool (pointwise int_eq p q)) [
    | inl y ↦ let e = same_only p q y in ap (at (with_value X q true)) e ∙ value_there X q true h.picture.filled inside ∙ sym (deleted_there lines q p e)
    | inr f ↦ let n : p ≢ q = λ e. (let z = sym (same_yes p q e) ∙ f in cc) in value_elsewhere X q p true inside n ∙ h.value p i
        ∙ sym (deleted_other lines q p n)
  ];
}

-- ---- the points left

-- all points are in the box
AllIn : List ℕ → List Pixel → Type 0
AllIn sides [] = Unit {0}
AllIn sides (x ∷ xs) = (in_box sides x.point ≡ true) × AllIn sides xs

filtered_in : (sides : List ℕ) (xs : List Pixel) → AllIn sides (filter (λ x. in_box sides x.point) xs)
unfolding AllIn
filtered_in sides [] = tt
filtered_in sides (x ∷ xs) = elim (cases_Bool (in_box sides x.point)) [
  | inl y ↦ subst (AllIn sides) (sym (cond-true (in_box sides x.point) (x ∷ filter (λ z. in_box sides z.point) xs) (filter (λ z. in_box sides z.point) xs) y))
      (y, filtered_in sides xs)
  | inr n ↦ subst (AllIn sides) (sym (cond-false (in_box sides x.point) (x ∷ filter (λ z. in_box sides z.point) xs) (filter (λ z. in_box sides z.point) xs) n))
      (filtered_in sides xs)
]

points_left : (sides : List ℕ) (lines : List Line) (X : Picture) (xs : List Program.Pixel) → HasDeleted sides lines X → AllIn sides (all_pixels xs)
    → flats (filter (λ p. not (at X (flat p))) (map (λ (x : Program.Pixel). x.point) xs)) ≡ filter (λ p. not (is_deleted lines p))
    (map (λ (x : Pixel). x.point) (all_pixels xs))
unfolding AllIn
points_left sides lines X [] h all = refl
points_left sides lines X (x ∷ xs) h all =
    let e = h.value (flat x.point) all.0 in
    let rest = points_left sides lines X xs h all.1 in
    let before = filter (λ p. not (at X (flat p))) (map (λ (z : Program.Pixel). z.point) xs) in
    let after = filter (λ p. not (is_deleted lines p)) (map (λ (z : Pixel). z.point) (all_pixels xs)) in
    elim (cases_Bool (not (at X (flat x.point)))) [
      | inl y ↦
          ap flats (cond-true (not (at X (flat x.point))) (x.point ∷ before) before y) ∙ ap (λ t. flat x.point ∷ t) rest
          ∙ sym (cond-true (not (is_deleted lines (flat x.point))) (flat x.point ∷ after) after (ap not (sym e) ∙ y))
      | inr n ↦
          ap flats (cond-false (not (at X (flat x.point))) (x.point ∷ before) before n) ∙ rest
          ∙ sym (cond-false (not (is_deleted lines (flat x.point))) (flat x.point ∷ after) after (ap not (sym e) ∙ n))
    ]

-- the program's points that are not in the picture of the deleted ones are those left
pub left_seen : (sides : List ℕ) (lines : List Line) (X : Picture) (xs : List Program.Pixel) → HasDeleted sides lines X → all_pixels xs ≡ pixels sides lines
    → flats (filter (λ p. not (at X (flat p))) (map (λ (x : Program.Pixel). x.point) xs)) ≡ left sides lines
left_seen sides lines X xs h e =
    points_left sides lines X xs h (subst (AllIn sides) (sym e) (filtered_in sides (filter_map pixel_of lines)))
    ∙ ap (λ t. filter (λ p. not (is_deleted lines p)) (map (λ (x : Pixel). x.point) t)) e

-- the pixels with one more line
pub pixels_more : (sides : List ℕ) (lines : List Line) (l : Line) → pixels sides (lines ++ l ∷ []) ≡ pixels sides lines ++ pixels sides (l ∷ [])
pixels_more sides lines l =
    ap (filter (λ x. in_box sides x.point)) (filter_map-append pixel_of lines (l ∷ []))
    ∙ filter-append (λ x. in_box sides x.point) (filter_map pixel_of lines) (filter_map pixel_of (l ∷ []))
