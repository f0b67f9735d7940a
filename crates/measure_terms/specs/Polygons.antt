-- The area of a polygon and the length of its border: sums over its sides.
-- The polygon is the list of its vertices, one round.
use Rattle.std.specs.Prelude.{◌*◌, ℕ, zero, suc, List, length, ℤ, pos, nat_abs, ◌+ℤ◌, ◌-ℤ◌, ◌*ℤ◌}
use Rattle.measure_terms.specs.Rounding.{root}
use Rattle.measure_terms.specs.Hulls.{Corner, vertex, end}

-- ---- sides

-- the sum of f over the places below n
abbrev pub sum_below : (ℕ → ℤ) → ℕ → ℤ
sum_below f zero = pos 0
sum_below f (suc n) = sum_below f n +ℤ f n

-- the sum of f over the sides of a polygon, each from its first to its second vertex
abbrev pub sum_of_sides : (Corner → Corner → ℤ) → List Corner → ℤ
sum_of_sides f h = sum_below (λ i. f (vertex h i) (end h i)) (length h)

-- ---- the area

-- twice the area of the triangle of the origin and a side, below 0 where it turns right
abbrev pub side_area : Corner → Corner → ℤ
side_area p q = p.x *ℤ q.y -ℤ p.y *ℤ q.x

-- twice the area of the polygon with these vertices
abbrev pub double_area : List Corner → ℤ
double_area h = sum_of_sides side_area h

-- ---- the border

-- the square of the length of a side
abbrev pub squared_length : Corner → Corner → ℤ
squared_length p q = (q.x -ℤ p.x) *ℤ (q.x -ℤ p.x) +ℤ (q.y -ℤ p.y) *ℤ (q.y -ℤ p.y)

-- the length of a side in millionths, rounded to nearest: a thousand times as many thousandths as it has, so a million times its square under the root
abbrev pub side_length : Corner → Corner → ℤ
side_length p q = pos (root (1000000 * nat_abs (squared_length p q)))

-- the lengths of the sides, each rounded to nearest in millionths, added up
abbrev pub perimeter : List Corner → ℤ
perimeter h = sum_of_sides side_length h
