-- Painting the rows of a ball: one row, and one row of the window after the other.
-- Laws over plain points and lists alone.
use Rattle.std.proofs.Common.{◌≡◌, ◌⊎◌, ◌↔◌, inl, inr, ℕ, ◌+◌, ◌*◌, ◌-◌, ◌/◌, ◌<◌, ◌≤◌, refl, ap, sym, ◌∙◌, subst, arith, List, [], ◌∷◌, length, set, mul_comm}
use Rattle.std.specs.Prelude.{ℤ, pos, negsuc, ◌+ℤ◌, ◌-ℤ◌, ◌≤ℤ◌, nat_abs, IsTrue}
use Rattle.std.proofs.lemmas.Int.{ints}
use Rattle.std.proofs.lemmas.Bool.{ltb-true}
use Rattle.std.proofs.lemmas.Nat.{mul-le}
use Rattle.std.proofs.Math.Nat.{mul-div_cancel}
use native.Mathlib.Decide.{dec_lt}
use Rattle.shape_terms.specs.Limits.{most_flat, most_coordinate}
use Rattle.shape_terms.specs.Points.{Point, coordinate, AreSides, sides_of, in_box, raster_number, raster_point, box_count, squared_distance}
use Rattle.shape_terms.specs.Adjacency.{moved}
use Rattle.shape_terms.specs.FramedBox.{IsWithin}
use Rattle.shape_terms.proofs.Boxes.{in_box_first, in_box_more, raster_point_in, raster_number-raster_point}
use Rattle.shape_window.specs.Windows.{IsWindow, IsReach, is_nearer}
use Rattle.shape_window.proofs.WindowPoints.{near_number}
use Rattle.shape_window.proofs.WindowPlaces.{number_at, near_below}
use Rattle.shape_thickness.specs.Painting.{IsPainted, IsFrom, IsNearPlace, IsNearRow}
use Rattle.shape_thickness.proofs.PaintSteps.{painted_none, painted_as, painted_then}
use Rattle.shape_thickness.proofs.RowPlaces.{row_number, row_point, row_end, window_point, near_by, rest_is}

-- the near places of the first rows of a window
abbrev pub IsNearTo : Point → Point → Point → Point → ℕ → ℕ → ℕ → Type 0
IsNearTo ns c low counts s r j = IsNearPlace (sides_of ns) c s j × (number_at (sides_of ns) (sides_of counts) low j < r * nat_abs (coordinate counts 0))

pub some_axes : (n d : ℕ) → n ≡ d → (d ≡ 2) ⊎ (d ≡ 3) → 0 < n
some_axes n d e (inl f) = omega arith
some_axes n d e (inr f) = omega arith

-- ---- one row

-- the point of the row that is straight above or below another point of the box lies in the box
pub across_in : (ns c q : Point) → IsTrue (in_box (sides_of ns) c) → IsTrue (in_box (sides_of ns) q) → IsTrue (in_box (sides_of ns) (set q 0 (coordinate c 0)))
across_in [] c [] ci qi = qi
across_in [] c (y ∷ q) ci qi = cc
across_in (n ∷ ns) [] q ci qi = cc
across_in (n ∷ ns) (x ∷ c) [] ci qi = cc
across_in (n ∷ ns) (x ∷ c) (y ∷ q) ci qi =
    let a = in_box_first (nat_abs n) (sides_of ns) x c ci in
    in_box_more (nat_abs n) (sides_of ns) x q a.0 a.1 (in_box_first (nat_abs n) (sides_of ns) y q qi).2

-- the stretch lies in the row, by naturals
fits : (n x : ℤ) (w : ℕ) → pos 0 ≤ℤ x → pos 1 ≤ℤ n → (x +ℤ pos w) ≤ℤ n → nat_abs x + w ≤ nat_abs n
fits (pos n) (pos x) w a b h = omega (arith, ints)
fits (negsuc n) (pos x) w a b h = absurd (omega (arith, ints))
fits n (negsuc x) w a b h = absurd (omega (arith, ints))

module _ (greatest : ℤ) (ns c q : Point) (s w rest : ℕ) (sides : AreSides greatest ns) (some : 0 < length ns) (ci : IsTrue (in_box (sides_of ns) c))
    (qi : IsTrue (in_box (sides_of ns) q))
    (within : (coordinate q 0 +ℤ pos w) ≤ℤ coordinate ns 0) (is : rest ≡ squared_distance c (set q 0 (coordinate c 0))) where
  abbrev pub start : ℕ
  start = raster_number (sides_of ns) q

  -- how far the place t of the row is from the centre, along the row
  abbrev pub gap : ℕ → ℕ
  gap t = nat_abs (coordinate c 0 -ℤ (coordinate q 0 +ℤ pos t))

  pub room : (t : ℕ) → t ≤ w → start + t ≤ box_count (sides_of ns)
  room = go greatest ns c q sides some qi within
    where
      go : (greatest : ℤ) (ns c q : Point) → AreSides greatest ns → 0 < length ns → IsTrue (in_box (sides_of ns) q)
          → (coordinate q 0 +ℤ pos w) ≤ℤ coordinate ns 0 → (t : ℕ) → t ≤ w → raster_number (sides_of ns) q + t ≤ box_count (sides_of ns)
      go greatest [] c q sides some qi within t l = absurd (omega arith)
      go greatest (n ∷ ns) c [] sides some qi within t l = cc
      go greatest (n ∷ ns) c (x ∷ q) sides some qi within t l =
          let f = in_box_first (nat_abs n) (sides_of ns) x q qi in
          let one = (sides 0 (omega arith)).0 in
          let m = fits n x w f.0 one within in
          row_end (nat_abs n) (sides_of ns) x q t qi (omega (arith, m, l))

  near_at : (t : ℕ) → t < w → IsNearPlace (sides_of ns) c s (start + t) ↔ (gap t * gap t + rest < s)
  near_at = go greatest ns c q sides some ci qi within is
    where
      go : (greatest : ℤ) (ns c q : Point) → AreSides greatest ns → 0 < length ns → IsTrue (in_box (sides_of ns) c) → IsTrue (in_box (sides_of ns) q)
          → (coordinate q 0 +ℤ pos w) ≤ℤ coordinate ns 0 → rest ≡ squared_distance c (set q 0 (coordinate c 0))
          → (t : ℕ) → t < w → IsNearPlace (sides_of ns) c s (raster_number (sides_of ns) q + t)
          ↔ (nat_abs (coordinate c 0 -ℤ (coordinate q 0 +ℤ pos t)) * nat_abs (coordinate c 0 -ℤ (coordinate q 0 +ℤ pos t)) + rest < s)
      go greatest [] c q sides some ci qi within is t l = absurd (omega arith)
      go greatest (n ∷ ns) [] q sides some ci qi within is t l = cc
      go greatest (n ∷ ns) (y ∷ c) [] sides some ci qi within is t l = cc
      go greatest (n ∷ ns) (y ∷ c) (x ∷ q) sides some ci qi within is t l =
          let f = in_box_first (nat_abs n) (sides_of ns) x q qi in
          let one = (sides 0 (omega arith)).0 in
          let m = fits n x w f.0 one within in
          let p = row_point (nat_abs n) (sides_of ns) x q t qi (omega (arith, m, l)) in
          let e : rest ≡ squared_distance c q = is ∙ rest_is y c q in
          let b = near_by y (x +ℤ pos t) c q s in
          ((λ h. (let k = b.0 (sym (ap (is_nearer (y ∷ c) s) p) ∙ h) in omega (arith, k, e))), λ h. ap (is_nearer (y ∷ c) s) p ∙ b.1 (omega (arith, h, e)))

  -- a row that is too far from the centre
  pub row_bare : (xs : List ℕ) → s ≤ rest → IsPainted (IsNearPlace (sides_of ns) c s) (IsNearRow (sides_of ns) c s q w) s xs xs
  row_bare xs far = painted_none (IsNearPlace (sides_of ns) c s) (IsNearRow (sides_of ns) c s q w) s xs (λ j l h.
      let u = h.1.0 in
      let v = h.1.1 in
      let t = j - start in
      let e : start + t ≡ j = omega (arith, u) in
      let n = (near_at t (omega (arith, u, v))).0 (subst (IsNearPlace (sides_of ns) c s) (sym e) h.0) in
      absurd (omega (arith, n, far)))

  -- a row whose stretch is painted
  pub row_painted : (i from to : ℕ) (old new : List ℕ) → rest < s → to ≤ w → ((t : ℕ) → t < w → ((from ≤ t) × (t < to)) ↔ (gap t * gap t ≤ s - 1 - rest))
      → i ≡ start
      → IsPainted (IsFrom (i + from) (i + to)) (IsFrom (i + from) (i + to)) s old new
      → IsPainted (IsNearPlace (sides_of ns) c s) (IsNearRow (sides_of ns) c s q w) s old new
  row_painted i from to old new near fit cut e p = painted_as (IsFrom (i + from) (i + to)) (IsFrom (i + from) (i + to)) (IsNearPlace (sides_of ns) c s)
      (IsNearRow (sides_of ns) c s q w) s old new
      (λ j l h.
      let u = h.0 in
      let v = h.1 in
      let t = j - start in
      let f : start + t ≡ j = omega (arith, u, e) in
      let b : t < w = omega (arith, u, v, e, fit) in
      let m = (cut t b).0 (omega (arith, u, e), omega (arith, v, u, e)) in
      subst (IsNearPlace (sides_of ns) c s) f ((near_at t b).1 (omega (arith, m, near))))
      (λ j l h.
      let u = h.1.0 in
      let v = h.1.1 in
      let t = j - start in
      let f : start + t ≡ j = omega (arith, u) in
      let b : t < w = omega (arith, u, v) in
      let n = (near_at t b).0 (subst (IsNearPlace (sides_of ns) c s) (sym f) h.0) in
      let m = (cut t b).1 (omega (arith, n, near)) in
      let x = m.0 in
      let y = m.1 in
      (omega (arith, e, f, x), omega (arith, e, f, y)))
      p

-- ---- the rows of a window

module _ (greatest : ℤ) (ns c low counts : Point) (reach : ℕ) (sides : AreSides greatest ns) (flat : greatest ≤ℤ pos most_flat)
    (w : IsWindow ns c reach low counts) where
  -- the first point of a window has small coordinates
  pub low_within : IsWithin (pos 0) (pos most_coordinate) low
  low_within k l =
      let e = w.low_axes in
      let t = w.spans k (omega (arith, e, l)) in
      let b = (sides k (omega (arith, e, l))).1 in
      let u = t.from in
      let v = t.some in
      let z = t.within in
      (u, omega (arith, ints, b, v, z, flat))

  -- how many places a row of the window has
  abbrev pub width : ℕ
  width = nat_abs (coordinate counts 0)

  -- the first point of a row
  abbrev pub head : ℕ → Point
  head r = moved low (raster_point (sides_of counts) (r * width))

  pub width_is : 0 < length ns → pos width ≡ coordinate counts 0
  width_is some = is (coordinate counts 0) (w.spans 0 some).some
    where
      is : (z : ℤ) → pos 1 ≤ℤ z → pos (nat_abs z) ≡ z
      is (pos n) h = refl
      is (negsuc n) h = absurd (omega (arith, ints))

  pub width_some : 0 < length ns → 0 < width
  width_some some = let e = width_is some in let t = (w.spans 0 some).some in omega (arith, ints, e, t)

  -- the numbers of the places of a row
  row_numbers : (ns low counts : Point) (r t : ℕ) → 0 < length ns → length low ≡ length ns → length counts ≡ length ns → pos 0 ≤ℤ coordinate low 0
      → t < nat_abs (coordinate counts 0)
      → raster_number (sides_of ns) (moved low (raster_point (sides_of counts) (r * nat_abs (coordinate counts 0) + t))) ≡ raster_number (sides_of ns)
      (moved low (raster_point (sides_of counts) (r * nat_abs (coordinate counts 0)))) + t
  row_numbers [] low counts r t some a b z l = absurd (omega arith)
  row_numbers (n ∷ ns) [] counts r t some a b z l = absurd (omega arith)
  row_numbers (n ∷ ns) (x ∷ low) [] r t some a b z l = absurd (omega arith)
  row_numbers (n ∷ ns) (x ∷ low) (m ∷ counts) r t some a b z l =
      let p = moved low (raster_point (sides_of counts) r) in
      let here = window_point (nat_abs m) (sides_of counts) r t l in
      let none : r * nat_abs m ≡ r * nat_abs m + 0 = omega arith in
      let first : raster_point (nat_abs m ∷ sides_of counts) (r * nat_abs m) ≡ pos 0 ∷ raster_point (sides_of counts) r =
      ap (raster_point (nat_abs m ∷ sides_of counts)) none ∙ window_point (nat_abs m) (sides_of counts) r 0 (omega arith) in
      let u = ap (λ (v : Point). raster_number (sides_of (n ∷ ns)) (moved (x ∷ low) v)) here ∙ row_number (nat_abs n) (sides_of ns) x p t z in
      let v = ap (λ (v : Point). raster_number (sides_of (n ∷ ns)) (moved (x ∷ low) v)) first ∙ row_number (nat_abs n) (sides_of ns) x p 0 z in
      omega (arith, u, v)

  -- the first coordinate of each row is that of the window
  pub head_first : (r : ℕ) → 0 < length ns → coordinate (head r) 0 ≡ coordinate low 0
  head_first r some = go low counts r (let e = w.low_axes in omega (arith, e, some)) (let e = w.low_axes in let f = w.count_axes in omega (arith, e, f))
      (width_some some)
    where
      go : (low counts : Point) (r : ℕ) → 0 < length low → length counts ≡ length low → 0 < nat_abs (coordinate counts 0)
          → coordinate (moved low (raster_point (sides_of counts) (r * nat_abs (coordinate counts 0)))) 0 ≡ coordinate low 0
      go [] counts r some e m = absurd (omega arith)
      go (x ∷ low) [] r some e m = absurd (omega arith)
      go (x ∷ low) (n ∷ counts) r some e m =
          let none : r * nat_abs n ≡ r * nat_abs n + 0 = omega arith in
          let first : raster_point (nat_abs n ∷ sides_of counts) (r * nat_abs n) ≡ pos 0 ∷ raster_point (sides_of counts) r =
          ap (raster_point (nat_abs n ∷ sides_of counts)) none ∙ window_point (nat_abs n) (sides_of counts) r 0 m in
          let z : x +ℤ pos 0 ≡ x = omega (arith, ints) in
          ap (λ (v : Point). coordinate (moved (x ∷ low) v) 0) first ∙ z

  pub head_fits : (r : ℕ) → 0 < length ns → (coordinate (head r) 0 +ℤ coordinate counts 0) ≤ℤ coordinate ns 0
  head_fits r some =
      let e = head_first r some in
      let t = (w.spans 0 some).within in
      omega (arith, ints, e, t)

  module _ (s : ℕ) (known : IsReach s reach) (ci : IsTrue (in_box (sides_of ns) c)) (some : 0 < length ns) where
    -- the near places of the rows before r
    abbrev pub IsNearBefore : ℕ → ℕ → Type 0
    IsNearBefore r j = IsNearPlace (sides_of ns) c s j × (number_at (sides_of ns) (sides_of counts) low j < r * width)

    -- one row more
    pub row_more : (r : ℕ) (q : Point) (old now new : List ℕ) → length old ≡ box_count (sides_of ns) → q ≡ head r
        → IsPainted (IsNearPlace (sides_of ns) c s) (IsNearBefore r) s old now
        → IsPainted (IsNearPlace (sides_of ns) c s) (IsNearRow (sides_of ns) c s q width) s now new
        → IsPainted (IsNearPlace (sides_of ns) c s) (IsNearBefore (r + 1)) s old new
    row_more r q old now new filled e p here = painted_then (IsNearPlace (sides_of ns) c s) (IsNearBefore r) (IsNearRow (sides_of ns) c s q width)
        (IsNearBefore (r + 1)) s old now new
        (λ j l h. elim (dec_lt (number_at (sides_of ns) (sides_of counts) low j) (r * width)) [
          | yes m ↦ inl (h.0, m)
          | no m ↦ (
              let k = number_at (sides_of ns) (sides_of counts) low j in
              let v = h.1 in
              let next : (r + 1) * width ≡ r * width + width = omega arith in
              let t = k - r * width in
              let f : r * width + t ≡ k = omega arith in
              let b : t < width = omega (arith, v, next, m) in
              let u : j < box_count (sides_of ns) = omega (arith, l, filled) in
              let pt = raster_point (sides_of ns) j in
              let near = near_number greatest ns c low counts reach sides flat w s known ci pt (raster_point_in (sides_of ns) j u)
              (ltb-true (squared_distance c pt) s h.0) in
              let number : raster_number (sides_of ns) (moved low (raster_point (sides_of counts) k)) ≡ j = ap (raster_number (sides_of ns)) near.1
              ∙ raster_number-raster_point (sides_of ns) j u in
              let row = row_numbers ns low counts r t some w.low_axes w.count_axes (w.spans 0 some).from b in
              let g : raster_number (sides_of ns) (moved low (raster_point (sides_of counts) (r * width + t))) ≡ j =
              ap (λ k. raster_number (sides_of ns) (moved low (raster_point (sides_of counts) k))) f ∙ number in
              let i : raster_number (sides_of ns) q ≡ raster_number (sides_of ns) (head r) = ap (raster_number (sides_of ns)) e in
              inr (h.0, (omega (arith, row, g, i), omega (arith, row, g, i, b))))
        ])
        p here

    -- all rows
    pub rows_all : (r : ℕ) (old new : List ℕ) → length old ≡ box_count (sides_of ns) → box_count (sides_of counts) ≤ r * width
        → IsPainted (IsNearPlace (sides_of ns) c s) (IsNearBefore r) s old new
        → IsPainted (IsNearPlace (sides_of ns) c s) (IsNearPlace (sides_of ns) c s) s old new
    rows_all r old new filled all p = painted_as (IsNearPlace (sides_of ns) c s) (IsNearBefore r) (IsNearPlace (sides_of ns) c s)
        (IsNearPlace (sides_of ns) c s) s old new (λ j l h. h)
        (λ j l h. (h, (let b = near_below greatest ns c low counts reach sides flat w s known ci j (omega (arith, l, filled)) h in omega (arith, b, all)))) p

    pub rows_none : (old : List ℕ) → IsPainted (IsNearPlace (sides_of ns) c s) (IsNearBefore 0) s old old
    rows_none old = painted_none (IsNearPlace (sides_of ns) c s) (IsNearBefore 0) s old (λ j l h. absurd (let v = h.1 in omega arith))

-- the rows of a box: as many as its places by the width
pub rows_of : (counts : Point) → 0 < length counts → 0 < nat_abs (coordinate counts 0)
    → (box_count (sides_of counts) / nat_abs (coordinate counts 0)) * nat_abs (coordinate counts 0) ≡ box_count (sides_of counts)
rows_of [] l m = absurd (omega arith)
rows_of (n ∷ counts) l m =
    let e : (nat_abs n * box_count (sides_of counts)) / nat_abs n ≡ box_count (sides_of counts) =
    ap (λ z. z / nat_abs n) (mul_comm (nat_abs n) (box_count (sides_of counts))) ∙ mul-div_cancel (box_count (sides_of counts)) m in
    ap (λ z. z * nat_abs n) e ∙ mul_comm (box_count (sides_of counts)) (nat_abs n)

-- a row begins before the end of the box
pub row_start : (counts : Point) (r : ℕ) → 0 < length counts → 0 < nat_abs (coordinate counts 0)
    → r < box_count (sides_of counts) / nat_abs (coordinate counts 0) → r * nat_abs (coordinate counts 0) < box_count (sides_of counts)
row_start counts r l m h =
    let w = nat_abs (coordinate counts 0) in
    let e = rows_of counts l m in
    let b = mul-le (r + 1) w (box_count (sides_of counts) / w) w (omega arith) (omega arith) in
    let s : (r + 1) * w ≡ r * w + w = omega arith in
    omega (arith, e, b, s, m)

-- behind the last row the box ends
pub row_last : (counts : Point) (r : ℕ) → 0 < length counts → 0 < nat_abs (coordinate counts 0)
    → box_count (sides_of counts) / nat_abs (coordinate counts 0) ≤ r → box_count (sides_of counts) ≤ r * nat_abs (coordinate counts 0)
row_last counts r l m h =
    let w = nat_abs (coordinate counts 0) in
    let e = rows_of counts l m in
    let b = mul-le (box_count (sides_of counts) / w) w r w h (omega arith) in
    omega (arith, e, b)
