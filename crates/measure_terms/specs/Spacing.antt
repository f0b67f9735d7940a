-- How long the sides of a voxel are along each axis, and what distances are then.
-- Points keep their coordinates; what a measure makes of a spacing stands with the measure.
use Rattle.std.specs.Prelude.{ℕ, ◌*◌, ◌≤◌, List, [], ◌∷◌, sum_by}
use Rattle.std.specs.Fmt.{decimal}
use Rattle.shape_terms.specs.Limits.{most_spacing}
use Rattle.shape_terms.specs.Points.{Point, axis_distances}

-- the sides along x, y and z, in one unit of length
pub record Spacing : Type 0 where
  pub x : ℕ
  pub y : ℕ
  pub z : ℕ

-- a whole number of units from 1 to the greatest
pub record IsSide (n : ℕ) : Type 0 where
  pub least : 1 ≤ n
  pub most : n ≤ most_spacing

-- each side is such a number
pub record IsSpacing (s : Spacing) : Type 0 where
  pub along_x : IsSide s.x
  pub along_y : IsSide s.y
  pub along_z : IsSide s.z

-- the spacing of cubes, whose sides are the unit
abbrev pub unit_spacing : Spacing
unit_spacing = record { x = 1; y = 1; z = 1 }

-- the sides in the order of the axes
abbrev pub lengths : Spacing → List ℕ
lengths s = s.x ∷ s.y ∷ s.z ∷ []

-- the sides as the words of a command line
abbrev pub side_words : Spacing → List (List ℕ)
side_words s = decimal s.x ∷ decimal s.y ∷ decimal s.z ∷ []

-- ---- distances

-- numbers of voxels on each axis, as lengths
abbrev pub scaled : List ℕ → List ℕ → List ℕ
scaled [] gs = []
scaled (n ∷ ns) [] = []
scaled (n ∷ ns) (g ∷ gs) = n * g ∷ scaled ns gs

-- the square of the Euclidean distance, where voxels have these sides
abbrev pub spaced_distance : Spacing → Point → Point → ℕ
spaced_distance s p q = sum_by (λ g. g * g) (scaled (lengths s) (axis_distances p q))
