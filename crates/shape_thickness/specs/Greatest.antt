-- Of each point of a box, the greatest square of a ball that holds it, where a list gives a square for each centre.
-- Whether the squares are distances to the background does not matter here.
use Rattle.std.specs.Prelude.{◌≡◌, ℕ, ◌<◌, ◌≤◌, ◌&&◌, max, if◌then◌else◌, List, [], ◌∷◌, map, length, nat_lt, slice_index}
use Rattle.shape_terms.specs.Points.{Point, box_count, box_points, raster_number, raster_point, squared_distance}
use Rattle.shape_terms.specs.Pictures.{Picture, at}
use Rattle.shape_terms.specs.Parts.{Object}

-- the square that the list gives for a point of the box
abbrev pub square_at : Picture → (squares : List ℕ) → Point → ℕ
square_at X squares c = slice_index squares (raster_number X.sides c)

-- c is an object point, and p is nearer to it than its square
pub record IsHeld (X : Picture) (squares : List ℕ) (c p : Point) : Type 0 where
  pub object : Object X c
  pub nearer : squared_distance c p < square_at X squares c

-- one number for each point of the box, in raster order: the greatest square of a ball that holds it, and 0 where none does
pub record AreGreatest (X : Picture) (squares greatest : List ℕ) : Type 0 where
  pub filled : length greatest ≡ box_count X.sides
  pub some : (i : ℕ) → i < box_count X.sides → 0 < slice_index greatest i
      → (c : Point) × IsHeld X squares c (raster_point X.sides i) × (slice_index greatest i ≡ square_at X squares c)
  pub most : (i : ℕ) (c : Point) → i < box_count X.sides → IsHeld X squares c (raster_point X.sides i) → square_at X squares c ≤ slice_index greatest i

-- ---- the same as a function

-- the greatest of some numbers, and 0 of none
abbrev pub greatest_of : List ℕ → ℕ
greatest_of [] = 0
greatest_of (n ∷ ns) = max n (greatest_of ns)

-- the square of the ball of c, where it holds p, and else 0
abbrev pub ball_square : Picture → (squares : List ℕ) → (p c : Point) → ℕ
ball_square X squares p c = if at X c && nat_lt (squared_distance c p) (square_at X squares c) then square_at X squares c else 0

-- of each point of the box, in raster order, the greatest square of a ball that holds it
abbrev pub greatest_squares : Picture → (squares : List ℕ) → List ℕ
greatest_squares X squares = map (λ p. greatest_of (map (ball_square X squares p) (box_points X.sides))) (box_points X.sides)
