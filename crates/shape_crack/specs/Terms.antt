-- What the program's pixels and cracks mean.
-- A crack's pixel is seen as the list of its coordinates.
use Rattle.std.specs.Prelude.{◌+◌, ℕ, List, [], ◌∷◌, pos, negsuc, ◌≤ℤ◌}
use Rattle.shape_terms.specs.Limits.{most_coordinate}
use Rattle.shape_space.specs.declared.point.P2.{P2}
use Rattle.shape_crack.specs.declared.crack.Crack.{Crack}
use Rattle.shape_terms.specs.Points.{Point, raster_point}
use Rattle.shape_terms.specs.Contours as Terms

-- the coordinates of a pixel
abbrev pub point_of : P2 → Point
point_of p = p.x ∷ p.y ∷ []

-- the crack of the definitions
abbrev pub crack_of : Crack → Terms.Crack
crack_of c = record { pixel = point_of c.p; side = c.side }

-- each coordinate leaves room for two steps and more
pub record LeavesRoom (p : P2) : Type 0 where
  pub x_low : negsuc 1 ≤ℤ p.x
  pub x_high : p.x ≤ℤ pos (most_coordinate + 2)
  pub y_low : negsuc 1 ≤ℤ p.y
  pub y_high : p.y ≤ℤ pos (most_coordinate + 2)

-- the side of the pixel with a raster number, which need not be a crack
abbrev pub side_of : List ℕ → ℕ → ℕ → Terms.Crack
side_of sides i s = record { pixel = raster_point sides i; side = s }
