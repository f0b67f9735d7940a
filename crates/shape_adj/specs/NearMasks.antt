-- The near neighbours of a point that are object, as one number: a set of numbers of steps. The cube has the point itself too.
-- What such a set says of the point belongs elsewhere.
use Rattle.std.specs.Prelude.{◌≡◌, ℕ, ◌+◌, ◌*◌, ◌<◌, ◌↔◌, [], true, length, slice_index_or}
use Rattle.std.specs.Int.{bit_at}
use Rattle.shape_terms.specs.Points.{Point}
use Rattle.shape_terms.specs.Pictures.{Picture, at}
use Rattle.shape_terms.specs.Adjacency.{moved, cube_steps, near_steps, near_point}

-- place k is in the set m
abbrev pub In : ℕ → ℕ → Type 0
In m k = bit_at m k ≡ 1

-- how many near neighbours a point of d axes has
abbrev pub near_total : ℕ → ℕ
near_total d = length (near_steps d)

-- bit k of m is set exactly where near neighbour k of p is object
abbrev pub IsNearMask : Picture → Point → ℕ → Type 0
IsNearMask Y p m = (k : ℕ) → In m k ↔ ((k < near_total (length p)) × (at Y (near_point p k) ≡ true))

-- ---- the cube

-- how many points the cube around a point of d axes has
abbrev pub cube_total : ℕ → ℕ
cube_total d = length (cube_steps d)

-- the step to the point of the cube with the number c, in raster order
abbrev pub cube_step : ℕ → ℕ → Point
cube_step d c = slice_index_or (cube_steps d) c []

-- the point of the cube around p with the number c
abbrev pub cube_point : Point → ℕ → Point
cube_point p c = moved p (cube_step (length p) c)

-- bit c of m is set exactly where point c of the cube around p is object
abbrev pub IsCubeMask : Picture → Point → ℕ → Type 0
IsCubeMask Y p m = (c : ℕ) → In m c ↔ ((c < cube_total (length p)) × (at Y (cube_point p c) ≡ true))

-- bit b of m is set exactly where point b of row r of the cube around p is object
abbrev pub IsRowMask : Picture → Point → ℕ → ℕ → Type 0
IsRowMask Y p r m = (b : ℕ) → In m b ↔ ((b < 3) × (at Y (cube_point p (3 * r + b)) ≡ true))
