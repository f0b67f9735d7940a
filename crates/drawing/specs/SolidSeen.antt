-- What the program's own points of space mean.
-- A point is the list of its coordinates.
use Rattle.std.specs.Prelude.{[], ◌∷◌}
use Rattle.shape_space.specs.declared.solid.P3.{P3}
use Rattle.shape_terms.specs.Points.{Point}

-- the coordinates of a point of space
abbrev pub solid : P3 → Point
solid p = p.x ∷ p.y ∷ p.z ∷ []
