-- Points of the whole space as lists of whole numbers, one for each axis, and boxes of such points.
-- Every definition serves each number of axes; none may name a type of the program.
use Rattle.std.specs.Prelude.{◌≡◌, ℕ, ◌+◌, ◌*◌, ◌/◌, ◌%◌, ◌<◌, Bool, true, false, ◌&&◌, nat_lt, List, [], ◌∷◌, map, length, slice_index_or, ℤ, pos, ◌-ℤ◌}
use Rattle.std.specs.Prelude.{nat_abs, ◌≤ℤ◌, sum_by}
use Rattle.std.specs.List.{range_with_len, flat_map}
use Rattle.std.specs.Ordering.{int_cmp, ordering_then}
use Rattle.std.specs.declared.cmp.Ordering.{Ordering}
use Rattle.std.specs.declared.cmp.Ordering.TheVariants.{Equal}

-- a point
abbrev pub Point : Type 0
Point = List ℤ

-- a point of the space with d axes
abbrev pub IsPoint : ℕ → Point → Type 0
IsPoint d p = length p ≡ d

-- the coordinate of p on the axis k, and 0 past the last axis
abbrev pub coordinate : Point → ℕ → ℤ
coordinate p k = slice_index_or p k (pos 0)

-- ---- distances

-- how far the coordinates of two points are apart, on each axis
abbrev pub axis_distances : Point → Point → List ℕ
axis_distances [] q = []
axis_distances (x ∷ p) [] = []
axis_distances (x ∷ p) (y ∷ q) = nat_abs (x -ℤ y) ∷ axis_distances p q

-- the square of the Euclidean distance
abbrev pub squared_distance : Point → Point → ℕ
squared_distance p q = sum_by (λ g. g * g) (axis_distances p q)

-- ---- boxes

-- each coordinate is a side of a box: from 1 to the greatest side
abbrev pub AreSides : ℤ → Point → Type 0
AreSides greatest n = (k : ℕ) → k < length n → (pos 1 ≤ℤ coordinate n k) × (coordinate n k ≤ℤ greatest)

-- the sides of a box that a point gives, as naturals
abbrev pub sides_of : Point → List ℕ
sides_of n = map nat_abs n

-- the point lies in the box of these sides
abbrev pub in_box : List ℕ → Point → Bool
in_box [] [] = true
in_box (n ∷ sides) (pos x ∷ p) = nat_lt x n && in_box sides p
in_box _ _ = false

-- the raster number of a point of the box, where the first axis runs fastest; outside the box it means nothing
abbrev pub raster_number : List ℕ → Point → ℕ
raster_number (n ∷ sides) (x ∷ p) = nat_abs x + n * raster_number sides p
raster_number _ _ = 0

-- the point of the box with a raster number, its digits in the mixed radix of the sides
abbrev pub raster_point : List ℕ → ℕ → Point
raster_point [] i = []
raster_point (n ∷ sides) i = pos (i % n) ∷ raster_point sides (i / n)

-- the points of the box in raster order
abbrev pub box_points : List ℕ → List Point
box_points [] = [] ∷ []
box_points (n ∷ sides) = flat_map (λ p. map (λ x. pos x ∷ p) (range_with_len 0 n)) (box_points sides)

-- how many points the box has in all
abbrev pub box_count : List ℕ → ℕ
box_count [] = 1
box_count (n ∷ sides) = n * box_count sides

-- raster order: the last axis on which two points differ decides
abbrev pub raster_cmp : Point → Point → Ordering
raster_cmp (x ∷ p) (y ∷ q) = ordering_then (raster_cmp p q) (int_cmp x y)
raster_cmp _ _ = Equal
