-- The lines of a framed box along an axis: the numbers of their points, and how far these are from other points.
-- Laws over sides and numbers alone, for each number of axes.
use Rattle.std.proofs.Common.{◌≡◌, ℕ, ◌+◌, ◌*◌, ◌/◌, ◌%◌, ◌<◌, List, [], ◌∷◌, ◌++◌, length, refl, sym, ap, ◌∙◌, arith, mul_comm}
use Rattle.std.specs.Prelude.{ℤ, pos, ◌-ℤ◌, nat_abs}
use Rattle.std.proofs.lemmas.Int.{ints}
use Rattle.std.proofs.lemmas.Nat.{div-mul-add, mod-mul-add, div_below}
use Rattle.std.proofs.lemmas.List.{map-append}
use Rattle.shape_terms.specs.Points.{Point, raster_point, box_count, squared_distance}
use Rattle.shape_terms.specs.FramedBox.{framed_sides, framed_point}
use Rattle.shape_terms.proofs.SquaredDistances.{squared_distance-cons}
use Rattle.shape_terms.proofs.FramedBoxes.{length-framed_point}
use Rattle.shape_terms.specs.AxisLines.{place, gap, apart}
use Rattle.shape_terms.proofs.Boxes.{some_side}

-- ---- numbers

-- one axis before the line's: its digit is that of the low part
before : (a c low y : ℕ) → 0 < a → ((low + (a * c) * y) % a ≡ low % a) × ((low + (a * c) * y) / a ≡ low / a + c * y)
before a c low y s =
    let r : a * (low / a) + low % a ≡ low = omega arith in
    let e : low + (a * c) * y ≡ (low / a + c * y) * a + low % a = omega arith in
    let b : low % a < a = omega arith in
    (rw e (mod-mul-add (low / a + c * y) a (low % a) b), rw e (div-mul-add (low / a + c * y) a (low % a) b))

raster_split : (ms : List ℕ) (n : ℕ) (bs : List ℕ) (low x high : ℕ) → low < box_count ms → x < n
    → raster_point (ms ++ n ∷ bs) (place (box_count ms) n low x high) ≡ raster_point ms low ++ pos x ∷ raster_point bs high
raster_split [] n bs low x high l h =
    let e : place 1 n low x high ≡ high * n + x = omega arith in
    rw (e, mod-mul-add high n x h, div-mul-add high n x h) refl
raster_split (a ∷ ms) n bs low x high l h =
    let s = some_side a (box_count ms) low l in
    let b = before a (box_count ms) low (x + n * high) s in
    let r = raster_split ms n bs (low / a) x high (div_below low a (box_count ms) s (omega (arith, mul_comm a (box_count ms)))) h in
    rw (b.0, b.1, r) refl

pub framed_split : (sa : List ℕ) (n : ℕ) (sb : List ℕ) (low x high : ℕ) → low < box_count (framed_sides sa) → x < n + 2
    → framed_point (sa ++ n ∷ sb) (place (box_count (framed_sides sa)) (n + 2) low x high) ≡ framed_point sa low ++ (pos x -ℤ pos 1) ∷ framed_point sb high
framed_split sa n sb low x high l h =
    let e : framed_sides (sa ++ n ∷ sb) ≡ framed_sides sa ++ (n + 2) ∷ framed_sides sb = map-append (λ n. n + 2) sa (n ∷ sb) in
    rw (e, raster_split (framed_sides sa) (n + 2) (framed_sides sb) low x high l h)
    (map-append (λ x. x -ℤ pos 1) (raster_point (framed_sides sa) low) (pos x ∷ raster_point (framed_sides sb) high))

-- ---- distances

distance_split : (a b p q : Point) → length a ≡ length b → squared_distance (a ++ p) (b ++ q) ≡ squared_distance a b + squared_distance p q
distance_split [] [] p q e = omega arith
distance_split [] (y ∷ b) p q e = absurd (omega arith)
distance_split (x ∷ a) [] p q e = absurd (omega arith)
distance_split (x ∷ a) (y ∷ b) p q e = rw (squared_distance-cons x y (a ++ p) (b ++ q), squared_distance-cons x y a b, distance_split a b p q (omega arith))
    (omega arith)

pub distance_same : (p : Point) → squared_distance p p ≡ 0
distance_same [] = refl
distance_same (x ∷ p) =
    let z : nat_abs (x -ℤ x) ≡ 0 = nothing x in
    rw (squared_distance-cons x x p p, z, distance_same p) refl
  where
    nothing : (x : ℤ) → nat_abs (x -ℤ x) ≡ 0
    nothing x = let e : x -ℤ x ≡ pos 0 = omega (arith, ints) in ap nat_abs e

-- two points that differ at most on one axis and before it: the square of the way on the axis, and the rest
distance_on : (a b rest : Point) (u v : ℤ) → length a ≡ length b
    → squared_distance (a ++ u ∷ rest) (b ++ v ∷ rest) ≡ squared_distance (a ++ v ∷ rest) (b ++ v ∷ rest) + nat_abs (u -ℤ v) * nat_abs (u -ℤ v)
distance_on a b rest u v e =
    let z : nat_abs (v -ℤ v) ≡ 0 = ap nat_abs (none v) in
    rw (
      distance_split a b (u ∷ rest) (v ∷ rest) e,
      distance_split a b (v ∷ rest) (v ∷ rest) e,
      squared_distance-cons u v rest rest,
      squared_distance-cons v v rest rest,
      distance_same rest,
      z,
    ) (omega arith)
  where
    none : (v : ℤ) → v -ℤ v ≡ pos 0
    none v = omega (arith, ints)

-- the distance of two points of which one stands on a line of the other's rest, by the line's point beside it
pub apart_on_line : (sa : List ℕ) (n : ℕ) (sb : List ℕ) (low low2 x y high : ℕ) → low < box_count (framed_sides sa) → low2 < box_count (framed_sides sa)
    → x < n + 2 → y < n + 2
    → apart (sa ++ n ∷ sb) (place (box_count (framed_sides sa)) (n + 2) low x high) (place (box_count (framed_sides sa)) (n + 2) low2 y high)
    ≡ apart (sa ++ n ∷ sb) (place (box_count (framed_sides sa)) (n + 2) low y high) (place (box_count (framed_sides sa)) (n + 2) low2 y high) + gap x y
    * gap x y
apart_on_line sa n sb low low2 x y high l l2 h k =
    let e : nat_abs ((pos x -ℤ pos 1) -ℤ (pos y -ℤ pos 1)) ≡ gap x y = ap nat_abs (lowered x y) in
    let same : length (framed_point sa low) ≡ length (framed_point sa low2) = length-framed_point sa low ∙ sym (length-framed_point sa low2) in
    let d = distance_on (framed_point sa low) (framed_point sa low2) (framed_point sb high) (pos x -ℤ pos 1) (pos y -ℤ pos 1) same in
    rw (framed_split sa n sb low x high l h, framed_split sa n sb low2 y high l2 k, framed_split sa n sb low y high l k) (rw e at d)
  where
    lowered : (x y : ℕ) → (pos x -ℤ pos 1) -ℤ (pos y -ℤ pos 1) ≡ pos x -ℤ pos y
    lowered x y = omega (arith, ints)
