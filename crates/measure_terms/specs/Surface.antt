-- The surface of a set of points of space, in whole numbers, by Crofton's formula with the cuts of lines in thirteen directions.
-- Other weights are a change here and of the same numbers in `measuring`.
use Rattle.std.specs.Prelude.{ℕ, ◌+◌, ◌*◌, ◌/◌}
use Rattle.measure_terms.specs.Minkowski.{Minkowski}

-- What a step out counts for: eight times the share of the sphere of directions that is nearer to its direction than to each other one of the 26, over the
-- length of the step.
-- Each is rounded to fourteen places, and given in units of the last one.

abbrev pub axis_weight : ℕ
axis_weight = 36622312963809

abbrev pub face_weight : ℕ
face_weight = 20919402194967

abbrev pub cube_weight : ℕ
cube_weight = 16256169682097

-- the surface in thousandths of a unit square, rounded to nearest, and a half up
abbrev pub surface : Minkowski → ℕ
surface m = (axis_weight * (m.x + m.y + m.z) + face_weight * (m.xy + m.xz + m.yz) + cube_weight * m.xyz + 50000000000) / 100000000000
