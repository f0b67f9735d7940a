-- The rows of a box along its first axis, and how far a ball reaches in one.
-- Laws over sides and points alone; what is painted is a matter of `Spans`.
use Rattle.std.proofs.Common.{◌≡◌, ◌⊎◌, inl, inr, ◌+◌, ◌*◌, ◌/◌, ◌<◌, ◌≤◌, ℕ, zero, suc, true, false, ℤ, pos, ◌-ℤ◌, ◌≤ℤ◌, List, [], ◌∷◌, length, get_or, set}
use Rattle.std.proofs.Common.{refl, sym, ap, ◌∙◌, arith, mul_comm}
use Rattle.std.specs.Prelude.{nat_abs}
use Rattle.std.proofs.lemmas.Int.{ints}
use Rattle.std.proofs.lemmas.Bool.{leb-true, leb-false, lt-leb, cases_lt}
use Rattle.std.proofs.lemmas.Nat.{mul-le, mod-mul-add, div-mul-add}
use Rattle.std.proofs.Math.Nat.{mul-div_cancel_left}
use Rattle.shape_terms.specs.Points.{Point, coordinate, squared_distance, box_count, raster_point}
use Rattle.shape_terms.specs.FramedBox.{IsWithin}
use Rattle.shape_terms.proofs.SquaredDistances.{squared_distance-cons}
use Rattle.shape_grid.specs.Balls.{covers}

-- ---- rows

-- there is a first axis
pub some_axis : (d : ℕ) → (d ≡ 2) ⊎ (d ≡ 3) → 1 ≤ d
some_axis d h = elim h [ inl e ↦ omega arith | inr e ↦ omega arith ]

-- the first point of a row, by another name of the sides
pub row_start : (ns sides : List ℕ) (row width w : ℕ) (p : Point) → p ≡ raster_point ns (row * width) → ns ≡ sides → width ≡ w
    → p ≡ raster_point sides (row * w)
row_start ns sides row width w p h e f = h ∙ (λ i. raster_point (e i) (row * f i))

-- the point of a row with the first coordinate x
pub row_point : (sides : List ℕ) (row x : ℕ) → 1 ≤ length sides → x < get_or sides 0 0
    → raster_point sides (row * get_or sides 0 0 + x) ≡ set (raster_point sides (row * get_or sides 0 0)) 0 (pos x)
row_point [] row x l m = absurd (omega arith)
row_point (n ∷ sides) row x l m =
    let some : 0 < n = omega arith in
    let e : row * n ≡ row * n + 0 = omega arith in
    let d : row * n / n ≡ row = ap (λ i. i / n) e ∙ div-mul-add row n 0 some in
    rw (mod-mul-add row n x m, div-mul-add row n x m, d) refl

-- the rows are the whole box
pub rows_are : (sides : List ℕ) (row : ℕ) → 1 ≤ length sides → 1 ≤ get_or sides 0 0 → row ≡ box_count sides / get_or sides 0 0
    → row * get_or sides 0 0 ≡ box_count sides
rows_are [] row l m e = absurd (omega arith)
rows_are (n ∷ sides) row l m e =
    let some : 0 < n = omega arith in
    e' n (box_count sides) row some e
  where
    e' : (n k row : ℕ) → 0 < n → row ≡ (n * k) / n → row * n ≡ n * k
    e' n k row some e = ap (λ i. i * n) (e ∙ mul-div_cancel_left k some) ∙ mul_comm k n

-- ---- reaches

-- the first coordinate adds the square of its distance to that of the row
row_distance : (c p : Point) (x : ℤ) → 1 ≤ length p → 1 ≤ length c
    → squared_distance (set p 0 x) c ≡ nat_abs (x -ℤ coordinate c 0) * nat_abs (x -ℤ coordinate c 0) + squared_distance (set p 0 (coordinate c 0)) c
row_distance [] p x l m = absurd (omega arith)
row_distance (y ∷ c) [] x l m = absurd (omega arith)
row_distance (y ∷ c) (z ∷ p) x l m =
    let none : nat_abs (y -ℤ y) ≡ 0 = omega (arith, ints) in
    squared_distance-cons x y p c ∙ ap (λ s. nat_abs (x -ℤ y) * nat_abs (x -ℤ y) + s) (sym (squared_distance-cons y y p c ∙ rw none (omega arith)))

-- a ball that does not reach the row's nearest point to its centre covers no point of the row
pub not_reached : (c p : Point) (r : ℕ) (x : ℤ) → 1 ≤ length p → 1 ≤ length c → covers c r (set p 0 (coordinate c 0)) ≡ false → covers c r (set p 0 x) ≡ false
not_reached c p r x l m e =
    let far = leb-false (squared_distance (set p 0 (coordinate c 0)) c) (r * r) e in
    lt-leb (squared_distance (set p 0 x) c) (r * r) (omega (arith, row_distance c p x l m))

-- a point that it covers is no farther along the row than the radius
pub along_row : (c p : Point) (r : ℕ) (x : ℤ) → 1 ≤ length p → 1 ≤ length c → covers c r (set p 0 x) ≡ true → nat_abs (x -ℤ coordinate c 0) ≤ r
along_row c p r x l m e =
    let near = leb-true (squared_distance (set p 0 x) c) (r * r) e in
    root (nat_abs (x -ℤ coordinate c 0)) r (omega (arith, row_distance c p x l m))
  where
    root : (a r : ℕ) → a * a ≤ r * r → a ≤ r
    root a r h = elim (cases_lt r a) [ inl k ↦ absurd (omega (arith, mul-le (r + 1) (r + 1) a a (omega arith) (omega arith))) | inr k ↦ k ]

-- a coordinate in the range keeps a point in it
pub set_within : (low high : ℤ) (p : Point) (x : ℤ) → IsWithin low high p → low ≤ℤ x → x ≤ℤ high → IsWithin low high (set p 0 x)
set_within low high [] x h l m k b = absurd (omega arith)
set_within low high (y ∷ p) x h l m zero b = (l, m)
set_within low high (y ∷ p) x h l m (suc k) b = h (suc k) (omega arith)
