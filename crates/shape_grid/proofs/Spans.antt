-- A ball that is painted from one raster number to another, and on to a third.
-- Laws over pictures alone; nothing here knows of draws.
use Rattle.std.proofs.Common.{◌≡◌, ◌+◌, ◌<◌, ◌≤◌, ℕ, Bool, true, false, cond, List, length, get_or, set, map, pos, ◌-◌, ◌*◌, ◌-ℤ◌, inl, inr, refl, sym, ap, ◌∙◌}
use Rattle.std.proofs.Common.{arith}
use Rattle.std.specs.Prelude.{◌&&◌, nat_le, nat_lt, nat_abs}
use Rattle.std.specs.List.{range_with_len}
use Rattle.std.proofs.lemmas.Bool.{cond-true, cond-false, cases_Bool, cases_lt, cases_eq, and_left, and_right, lt-ltb, le-ltb, le-leb, lt-leb}
use Rattle.std.proofs.lemmas.List.{same_lists, get_or_default, get_or-set_same, get_or-set_other, length-set}
use Rattle.std.proofs.lemmas.List.FromFn.{length-map-range_with_len, get_or-map-range_with_len}
use Rattle.shape_terms.specs.Points.{Point, coordinate, box_count, raster_point}
use Rattle.shape_terms.specs.Pictures.{Picture, with_value}
use Rattle.shape_terms.proofs.Boxes.{raster_number-raster_point}
use Rattle.shape_terms.proofs.ObjectPlaces.{length-raster_point}
use Rattle.shape_grid.specs.Balls.{covers}
use Rattle.shape_grid.proofs.BoxRows.{row_point, not_reached, along_row}
use Rattle.shape_grid.specs.Painting.{is_painted, painted}

-- ---- values by number

-- two pictures of one box are equal where their values are
same_picture : (X : Picture) (values : List Bool) → X.values ≡ values → X ≡ record { sides = X.sides; values = values }
same_picture X values e = λ i. record { sides = X.sides; values = e i }

-- a picture is its values, given by number
by_number : (X : Picture) (f : ℕ → Bool) → length X.values ≡ box_count X.sides → ((i : ℕ) → i < box_count X.sides → get_or X.values i false ≡ f i)
    → X ≡ record { sides = X.sides; values = map f (range_with_len 0 (box_count X.sides)) }
by_number X f filled h =
    let n = box_count X.sides in
    same_picture X (map f (range_with_len 0 n)) (same_lists X.values (map f (range_with_len 0 n)) (filled ∙ sym (length-map-range_with_len f 0 n)) (λ k d l.
    let m : k < n = omega (arith, filled) in
    get_or_default X.values k d false l ∙ h k m ∙ sym (get_or-map-range_with_len f 0 n k k d m (omega arith))))

module _ (c : Point) (r : ℕ) (v : Bool) where
  pub length-painted : (X : Picture) (from to : ℕ) → length (painted X c r v from to).values ≡ box_count X.sides
  length-painted X from to = length-map-range_with_len (λ i. cond (is_painted X.sides c r from to i) v (get_or X.values i false)) 0 (box_count X.sides)

  pub get_or-painted : (X : Picture) (from to i : ℕ) → i < box_count X.sides
      → get_or (painted X c r v from to).values i false ≡ cond (is_painted X.sides c r from to i) v (get_or X.values i false)
  get_or-painted X from to i l = get_or-map-range_with_len (λ i. cond (is_painted X.sides c r from to i) v (get_or X.values i false)) 0 (box_count X.sides) i i
      false l (omega arith)

  -- ---- which points are painted

  pub painted_within : (sides : List ℕ) (from to i : ℕ) → from ≤ i → i < to → is_painted sides c r from to i ≡ covers c r (raster_point sides i)
  painted_within sides from to i l m = rw (le-leb from i l, lt-ltb i to m) refl

  painted_before : (sides : List ℕ) (from to i : ℕ) → i < from → is_painted sides c r from to i ≡ false
  painted_before sides from to i l = rw (lt-leb from i l) refl

  painted_behind : (sides : List ℕ) (from to i : ℕ) → to ≤ i → is_painted sides c r from to i ≡ false
  painted_behind sides from to i l = and_left (nat_le from i && nat_lt i to) (covers c r (raster_point sides i))
      (and_right (nat_le from i) (nat_lt i to) (le-ltb i to l))

  painted_bare : (sides : List ℕ) (from to i : ℕ) → covers c r (raster_point sides i) ≡ false → is_painted sides c r from to i ≡ false
  painted_bare sides from to i e = and_right (nat_le from i && nat_lt i to) (covers c r (raster_point sides i)) e

  same_start : (sides : List ℕ) (from m to i : ℕ) → i < m → m ≤ to → is_painted sides c r from m i ≡ is_painted sides c r from to i
  same_start sides from m to i l k =
      let l2 : i < to = omega arith in
      rw (lt-ltb i m l, lt-ltb i to l2) refl

  same_end : (sides : List ℕ) (from m to i : ℕ) → from ≤ m → m ≤ i → is_painted sides c r m to i ≡ is_painted sides c r from to i
  same_end sides from m to i k l =
      let l2 : from ≤ i = omega arith in
      rw (le-leb m i l, le-leb from i l2) refl

  -- ---- spans

  -- nothing changes where no point is painted
  pub unpainted : (X : Picture) (from to : ℕ) → length X.values ≡ box_count X.sides
      → ((i : ℕ) → i < box_count X.sides → is_painted X.sides c r from to i ≡ false) → X ≡ painted X c r v from to
  unpainted X from to filled h = by_number X (λ i. cond (is_painted X.sides c r from to i) v (get_or X.values i false)) filled (λ i l.
      sym (cond-false (is_painted X.sides c r from to i) v (get_or X.values i false) (h i l)))

  -- two spans that paint the same points
  pub same_span : (X : Picture) (from to from2 to2 : ℕ)
      → ((i : ℕ) → i < box_count X.sides → is_painted X.sides c r from to i ≡ is_painted X.sides c r from2 to2 i)
      → painted X c r v from to ≡ painted X c r v from2 to2
  same_span X from to from2 to2 h = by_number (painted X c r v from to) (λ i. cond (is_painted X.sides c r from2 to2 i) v (get_or X.values i false))
      (length-painted X from to) (λ i l.
      get_or-painted X from to i l ∙ ap (λ b. cond b v (get_or X.values i false)) (h i l))

  -- a span and the next one are one span
  pub joined_spans : (X : Picture) (from m to : ℕ) → from ≤ m → m ≤ to → painted (painted X c r v from m) c r v m to ≡ painted X c r v from to
  joined_spans X from m to k n =
      let Y = painted X c r v from m in
      by_number (painted Y c r v m to) (λ i. cond (is_painted X.sides c r from to i) v (get_or X.values i false)) (length-painted Y m to) (λ i l.
      get_or-painted Y m to i l ∙ ap (λ b. cond (is_painted X.sides c r m to i) v b) (get_or-painted X from m i l)
      ∙ elim (cases_lt i m) [
        | inl a ↦ cond-false (is_painted X.sides c r m to i) v _ (painted_before X.sides m to i a)
            ∙ ap (λ b. cond b v (get_or X.values i false)) (same_start X.sides from m to i a n)
        | inr b ↦ ap (λ x. cond (is_painted X.sides c r m to i) v x)
            (cond-false (is_painted X.sides c r from m i) v (get_or X.values i false) (painted_behind X.sides from m i b))
            ∙ ap (λ b. cond b v (get_or X.values i false)) (same_end X.sides from m to i k b)
      ])

  -- ---- one point

  written : (X : Picture) (i : ℕ) → length X.values ≡ box_count X.sides → i < box_count X.sides → covers c r (raster_point X.sides i) ≡ true
      → record { sides = X.sides; values = set X.values i v } ≡ painted X c r v i (i + 1)
  written X i filled l e = by_number (record { sides = X.sides; values = set X.values i v })
      (λ k. cond (is_painted X.sides c r i (i + 1) k) v (get_or X.values k false)) (length-set X.values i v ∙ filled) (λ k m.
      elim (cases_eq k i) [
        | inl a ↦ let t : is_painted X.sides c r i (i + 1) k ≡ true = painted_within X.sides i (i + 1) k (omega arith) (omega arith)
            ∙ ap (λ j. covers c r (raster_point X.sides j)) a ∙ e in
            ap (λ j. get_or (set X.values i v) j false) a ∙ get_or-set_same X.values i v false (omega (arith, filled))
            ∙ sym (cond-true (is_painted X.sides c r i (i + 1) k) v (get_or X.values k false) t)
        | inr b ↦ let f : is_painted X.sides c r i (i + 1) k ≡ false =
            elim (cases_lt k i) [ inl x ↦ painted_before X.sides i (i + 1) k x | inr y ↦ painted_behind X.sides i (i + 1) k (omega arith) ] in
            get_or-set_other X.values i k v false b ∙ sym (cond-false (is_painted X.sides c r i (i + 1) k) v (get_or X.values k false) f)
      ])

  -- one point more, which has the ball's value where the ball covers it
  pub painted_more : (X Y : Picture) (from i : ℕ) (p : Point) → from ≤ i → i < box_count X.sides → p ≡ raster_point X.sides i
      → Y ≡ cond (covers c r p) (with_value (painted X c r v from i) p v) (painted X c r v from i) → Y ≡ painted X c r v from (i + 1)
  painted_more X Y from i p k l e h =
      let Z = painted X c r v from i in
      let filled = length-painted X from i in
      let q = raster_point X.sides i in
      let step : cond (covers c r q) (with_value Z q v) Z ≡ painted Z c r v i (i + 1) =
      elim (cases_Bool (covers c r q)) [
        | inl t ↦ cond-true (covers c r q) (with_value Z q v) Z t ∙ ap (λ j. record { sides = X.sides; values = set Z.values j v })
            (raster_number-raster_point X.sides i l) ∙ written Z i filled l t
        | inr f ↦ cond-false (covers c r q) (with_value Z q v) Z f ∙ unpainted Z i (i + 1) filled (λ j m. elim (cases_eq j i) [
          | inl a ↦ painted_bare X.sides i (i + 1) j (ap (λ j. covers c r (raster_point X.sides j)) a ∙ f)
          | inr b ↦ elim (cases_lt j i) [ inl x ↦ painted_before X.sides i (i + 1) j x | inr y ↦ painted_behind X.sides i (i + 1) j (omega arith) ]
        ])
      ] in
      h ∙ ap (λ p. cond (covers c r p) (with_value Z p v) Z) e ∙ step ∙ joined_spans X from i (i + 1) k (omega arith)

  -- a span without a point paints nothing
  pub untouched : (X : Picture) (i : ℕ) → length X.values ≡ box_count X.sides → X ≡ painted X c r v i i
  untouched X i filled = unpainted X i i filled (λ k m. elim (cases_lt k i) [ inl x ↦ painted_before X.sides i i k x | inr y ↦ painted_behind X.sides i i k y ])

  -- ---- rows of the box

  -- how a point of a row is covered
  in_row : (sides : List ℕ) (row i : ℕ) → 1 ≤ length sides → row * get_or sides 0 0 ≤ i → i < (row + 1) * get_or sides 0 0
      → covers c r (raster_point sides i) ≡ covers c r (set (raster_point sides (row * get_or sides 0 0)) 0 (pos (i - row * get_or sides 0 0)))
  in_row sides row i l a b =
      let w = get_or sides 0 0 in
      let is : i ≡ row * w + (i - row * w) = omega arith in
      ap (λ j. covers c r (raster_point sides j)) is ∙ ap (covers c r) (row_point sides row (i - row * w) l (omega arith))

  -- a row that the ball does not reach stays as it is
  pub row_unreached : (X : Picture) (row : ℕ) → length X.values ≡ box_count X.sides → 1 ≤ length X.sides → 1 ≤ length c
      → covers c r (set (raster_point X.sides (row * get_or X.sides 0 0)) 0 (coordinate c 0)) ≡ false
      → X ≡ painted X c r v (row * get_or X.sides 0 0) ((row + 1) * get_or X.sides 0 0)
  row_unreached X row filled l m e =
      let w = get_or X.sides 0 0 in
      let p = raster_point X.sides (row * w) in
      let some : 1 ≤ length p = omega (arith, length-raster_point X.sides (row * w)) in
      unpainted X (row * w) ((row + 1) * w) filled (λ i k. elim (cases_lt i (row * w)) [
        | inl a ↦ painted_before X.sides (row * w) ((row + 1) * w) i a
        | inr a ↦ elim (cases_lt i ((row + 1) * w)) [
          | inl b ↦ painted_bare X.sides (row * w) ((row + 1) * w) i (in_row X.sides row i l a b ∙ not_reached c p r (pos (i - row * w)) some m e)
          | inr b ↦ painted_behind X.sides (row * w) ((row + 1) * w) i b
        ]
      ])

  -- where the places that a ball may reach are painted, the row is
  pub row_reached : (X : Picture) (row low high : ℕ) → 1 ≤ length X.sides → 1 ≤ length c → low ≤ high → high ≤ get_or X.sides 0 0
      → ((x : ℕ) → x < get_or X.sides 0 0 → nat_abs (pos x -ℤ coordinate c 0) ≤ r → (low ≤ x) × (x < high))
      → painted X c r v (row * get_or X.sides 0 0 + low) (row * get_or X.sides 0 0 + high) ≡ painted X c r v (row * get_or X.sides 0 0)
      ((row + 1) * get_or X.sides 0 0)
  row_reached X row low high l m ordered within all =
      let w = get_or X.sides 0 0 in
      let s = row * w in
      let p = raster_point X.sides s in
      let some : 1 ≤ length p = omega (arith, length-raster_point X.sides s) in
      same_span X (s + low) (s + high) s ((row + 1) * w) (λ i k. elim (cases_lt i s) [
        | inl before ↦ painted_before X.sides (s + low) (s + high) i (omega arith) ∙ sym (painted_before X.sides s ((row + 1) * w) i before)
        | inr from ↦ elim (cases_lt i ((row + 1) * w)) [
          | inl in' ↦ elim (cases_Bool (covers c r (raster_point X.sides i))) [
            | inl t ↦ let n = along_row c p r (pos (i - s)) some m (sym (in_row X.sides row i l from in') ∙ t) in
                let f = all (i - s) (omega arith) n in
                painted_within X.sides (s + low) (s + high) i (omega arith) (omega arith) ∙ sym (painted_within X.sides s ((row + 1) * w) i from in')
            | inr f ↦ painted_bare X.sides (s + low) (s + high) i f ∙ sym (painted_bare X.sides s ((row + 1) * w) i f)
          ]
          | inr behind ↦ painted_behind X.sides (s + low) (s + high) i (omega arith) ∙ sym (painted_behind X.sides s ((row + 1) * w) i behind)
        ]
      ])
