-- The volume and the surface of a set of points of space where voxels have the sides of a spacing: the surface by Crofton's formula with the cuts of lines in
-- thirteen directions.
-- What share of all directions each class of steps stands for is told in `Shares`.
use Rattle.std.specs.Prelude.{ℕ, ◌+◌, ◌*◌, ◌/◌, ◌^◌, [], ◌∷◌, slice_index}
use Rattle.measure_terms.specs.Rounding.{root}
use Rattle.measure_terms.specs.Spacing.{Spacing}
use Rattle.measure_terms.specs.Shares.{dot, spaced_step, share}
use Rattle.measure_terms.specs.Minkowski.{Minkowski}

-- the volume of so many voxels
abbrev pub volume : Spacing → ℕ → ℕ
volume s n = n * (s.x * s.y * s.z)

-- how many directions a class has, of two opposite ones one
abbrev pub variants : ℕ → ℕ
variants c = slice_index (0 ∷ 1 ∷ 1 ∷ 2 ∷ 1 ∷ 2 ∷ 2 ∷ 4 ∷ []) c

-- the length of a step of a class, in ten-millionths
unfoldable pub step_size : Spacing → ℕ → ℕ
step_size s c = root (10 ^ 8 * dot (spaced_step s c) (spaced_step s c))

-- What a step out of a class counts for, in billionths: four times the volume of a voxel, times the share of the class, over the number of its directions and
-- the length of the step. Shares are in units of 10^-12 and lengths of 10^-7.
-- Lines in a direction cut a surface twice as often as steps lead out; the surface is twice the mean of the cuts over all directions, where a unit of area has
-- one line.
unfoldable pub step_weight : Spacing → ℕ → ℕ
step_weight s c = 40000 * volume s 1 * share s c / variants c / step_size s c

-- what all steps out count for
abbrev pub cuts : (weight : ℕ → ℕ) → Minkowski → ℕ
cuts weight m = weight 1 * m.x + (weight 2 * m.y + (weight 3 * m.xy + (weight 4 * m.z + (weight 5 * m.xz + (weight 6 * m.yz + weight 7 * m.xyz)))))

-- the surface in thousandths of a unit square, rounded to nearest, and a half up
abbrev pub spaced_surface : Spacing → Minkowski → ℕ
spaced_surface s m = (cuts (step_weight s) m + 500000) / 1000000
