-- The program's points of space as the list of their coordinates.
-- It stands by itself, since the list of points is told after it.
use Rattle.std.specs.Prelude.{[], ◌∷◌}
use Rattle.shape_terms.specs.Points.{Point}
use Rattle.shape_space.specs.declared.solid.P3.{P3}

abbrev pub point_of : P3 → Point
point_of p = p.x ∷ p.y ∷ p.z ∷ []
