-- The values of a framed box, run after run, and the rows of a box as parts of its lines.
-- Laws over pictures, values and numbers alone.
use Rattle.std.proofs.Common.{◌≡◌, inl, inr, ℕ, ◌+◌, ◌-◌, ◌*◌, ◌<◌, ◌≤◌, Bool, nat_lt, true, false, List, [], ◌∷◌, length, set, replicate, get_or}
use Rattle.std.proofs.Common.{refl, sym, ap, ◌∙◌, subst, arith}
use Rattle.std.specs.Prelude.{ℤ, pos, negsuc, ◌-ℤ◌, IsTrue, ◌&&◌}
use Rattle.std.proofs.lemmas.Int.{ints}
use Rattle.std.proofs.lemmas.Bool.{cases_lt, ltb-false, cases_Bool, and_parts}
use Rattle.std.proofs.lemmas.List.{get_or-replicate, get_or_past, length-replicate}
use Rattle.std.proofs.lemmas.Nat.{mul-le}
use Rattle.shape_terms.specs.Points.{Point, in_box, box_count, raster_number, raster_point}
use Rattle.shape_terms.specs.Pictures.{Picture, at}
use Rattle.shape_terms.specs.FramedBox.{framed_sides, framed_point}
use Rattle.shape_terms.proofs.Boxes.{mod_of, div_of, raster_below, raster_point-raster_number}
use Rattle.shape_terms.proofs.BoxLists.{at_raster_point}
use Rattle.shape_grid.specs.Runs.{IsFilled}
use Rattle.shape_dist.specs.FirstAxis.{line_length, IsLine}
use Rattle.shape_dist.specs.Objects.{AreValuesTo}

-- ---- before any run

pub no_value : (X : Picture) (values : List Bool) (n : ℕ) → values ≡ replicate n false → n ≡ box_count (framed_sides X.sides) → AreValuesTo X 0 values
no_value X values n e l = record {
  long = ap length e ∙ length-replicate n false ∙ l;
  each = λ i k. absurd (omega arith);
  rest = λ i k. ap (λ v. get_or v i false) e ∙ all_false i;
}
  where
    all_false : (i : ℕ) → get_or (replicate n false) i false ≡ false
    all_false i = elim (cases_lt i n) [
      | inl k ↦ get_or-replicate n i false false k
      | inr k ↦ get_or_past (replicate n false) i false (omega (arith, length-replicate n false))
    ]

pub bare_line : (X : Picture) (n w : ℕ) (values : List Bool) → ((x : ℕ) → x < w → at X (framed_point X.sides (n + x)) ≡ false)
    → AreValuesTo X n values → AreValuesTo X (n + w) values
bare_line X n w values bare t = record {
  long = t.long;
  each = λ i k. elim (cases_lt i n) [
    | inl low ↦ t.each i low
    | inr from ↦
        let e : n + (i - n) ≡ i = omega arith in
        t.rest i from ∙ sym (subst (λ j. at X (framed_point X.sides j) ≡ false) e (bare (i - n) (omega arith)))
  ];
  rest = λ i k. t.rest i (omega arith);
}

-- ---- runs of a row

module _ (X : Picture) (start place n : ℕ) (row : (x : ℕ) → x < n → raster_point X.sides (start + x) ≡ framed_point X.sides (place + x))
    (inside : start + n ≤ box_count X.sides) where
  -- the value of a place of the row
  value_there : (x : ℕ) → x < n → at X (framed_point X.sides (place + x)) ≡ get_or X.values (start + x) false
  value_there x l = ap (at X) (sym (row x l)) ∙ at_raster_point X (start + x) (omega arith)

  pub falses_passed : (x from : ℕ) (values : List Bool) → x ≤ from → from ≤ n
      → ((i : ℕ) → start + x ≤ i → i < start + from → get_or X.values i false ≡ false) → AreValuesTo X (place + x) values
      → AreValuesTo X (place + from) values
  falses_passed x from values l h none t =
      let e : place + x + (from - x) ≡ place + from = omega arith in
      subst (λ m. AreValuesTo X m values) e (bare_line X (place + x) (from - x) values
      (λ y k.
      let there : place + (x + y) ≡ place + x + y = omega arith in
      ap (λ m. at X (framed_point X.sides m)) (sym there) ∙ value_there (x + y) (omega arith) ∙ none (start + (x + y)) (omega arith) (omega arith)) t)

  pub trues_filled : (from until : ℕ) (old new : List Bool) → from ≤ until → until ≤ n
      → ((i : ℕ) → start + from ≤ i → i < start + until → get_or X.values i false ≡ true) → IsFilled old new (place + from) (place + until) true
      → AreValuesTo X (place + from) old → AreValuesTo X (place + until) new
  trues_filled from until old new l h all filled t = record {
    long = filled.room ∙ t.long;
    each = λ i k. elim (cases_lt i (place + from)) [
      | inl low ↦ filled.before i low ∙ t.each i low
      | inr on ↦
          let e : place + (i - place) ≡ i = omega arith in
          let there = value_there (i - place) (omega arith) ∙ all (start + (i - place)) (omega arith) (omega arith) in
          filled.inside i on k ∙ sym (subst (λ j. at X (framed_point X.sides j) ≡ true) e there)
    ];
    rest = λ i k. filled.behind i k ∙ t.rest i (omega arith);
  }

-- ---- the row of the box on a line

outside : (X : Picture) (p : Point) → in_box X.sides p ≡ false → at X p ≡ false
outside X p e = rw e refl

row_point : (sides : List ℕ) (q : Point) (y : ℕ) → IsTrue (in_box sides (set q 0 (pos 0))) → y + 2 < line_length sides
    → raster_point sides (raster_number sides (set q 0 (pos 0)) + y) ≡ set q 0 (pos y)
row_point [] q y h l = absurd (omega arith)
row_point (n ∷ sides) [] y h l = cc
row_point (n ∷ sides) (x ∷ q) y h l =
    let r = raster_number sides q in
    let e : 0 + n * r + y ≡ y + n * r = omega arith in
    rw (e, mod_of n y r (omega arith), div_of n y r (omega arith)) (ap (λ p. pos y ∷ p) (raster_point-raster_number sides q (and_parts _ _ h).1))

row_inside : (sides : List ℕ) (q : Point) → IsTrue (in_box sides (set q 0 (pos 0)))
    → raster_number sides (set q 0 (pos 0)) + (line_length sides - 2) ≤ box_count sides
row_inside [] q h = omega arith
row_inside (n ∷ sides) [] h = let none : ⊥ = cc in absurd none
row_inside (n ∷ sides) (x ∷ q) h =
    let below : raster_number sides q < box_count sides = raster_below sides q (and_parts (nat_lt 0 n) (in_box sides q) h).1 in
    let m : n * (raster_number sides q + 1) ≤ n * box_count sides = mul-le n (raster_number sides q + 1) n (box_count sides) (omega arith) (omega arith) in
    omega (arith, m)

row_outside : (sides : List ℕ) (q : Point) (v : ℤ) → in_box sides (set q 0 (pos 0)) ≡ false → in_box sides (set q 0 v) ≡ false
row_outside [] [] v h = h
row_outside [] (x ∷ q) v h = refl
row_outside (n ∷ sides) [] v h = refl
row_outside (n ∷ sides) (x ∷ q) (negsuc k) h = refl
row_outside (n ∷ sides) (x ∷ q) (pos k) h = elim (cases_Bool (in_box sides q)) [
  | inr f ↦ rw f (grind arith)
  | inl t ↦
      let none : nat_lt 0 n && true ≡ false = rw t at h in
      let z : n ≡ 0 = elim (cases_Bool (nat_lt 0 n)) [ inl y ↦ cc | inr f ↦ let l = ltb-false 0 n f in omega arith ] in
      rw z (grind arith)
]

module _ (X : Picture) (a w : ℕ) (p : Point) (line : IsLine X a w) (side : w ≡ line_length X.sides) (first : p ≡ set (framed_point X.sides a) 0 (pos 0)) where
  pub row_on_line : (r y : ℕ) → IsTrue (in_box X.sides p) → r ≡ raster_number X.sides p → y < w - 2
      → raster_point X.sides (r + y) ≡ framed_point X.sides (a + 1 + y)
  row_on_line r y h e l =
      let here = row_point X.sides (framed_point X.sides a) y (rw first at h) (omega arith) in
      let next : a + (y + 1) ≡ a + 1 + y = omega arith in
      let v : pos y ≡ pos (y + 1) -ℤ pos 1 = omega (arith, ints) in
      ap (λ r. raster_point X.sides (r + y)) e ∙ ap (λ p. raster_point X.sides (raster_number X.sides p + y)) first ∙ here
      ∙ line.point (y + 1) (pos y) (omega arith) v ∙ ap (framed_point X.sides) next

  pub row_in_box : (r : ℕ) → IsTrue (in_box X.sides p) → r ≡ raster_number X.sides p → r + (w - 2) ≤ box_count X.sides
  row_in_box r h e =
      let here = row_inside X.sides (framed_point X.sides a) (rw first at h) in
      let f : r ≡ raster_number X.sides (set (framed_point X.sides a) 0 (pos 0)) = e ∙ ap (raster_number X.sides) first in
      omega (arith, here, f, side)

  pub row_bare : (x : ℕ) → in_box X.sides p ≡ false → x < w → at X (framed_point X.sides (a + x)) ≡ false
  row_bare x h l =
      let v = pos x -ℤ pos 1 in
      let f : in_box X.sides (set (framed_point X.sides a) 0 v) ≡ false =
      row_outside X.sides (framed_point X.sides a) v (ap (in_box X.sides) (sym first) ∙ h) in
      outside X _ (ap (in_box X.sides) (sym (line.point x v l refl)) ∙ f)
