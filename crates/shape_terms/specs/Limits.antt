-- How large sides, coordinates and counts may be: each bound of the program is one of these names, or a sum or product of them.
-- They are abbreviations, so that `omega` sees through them; a bound is changed here and nowhere else.
use Rattle.std.specs.Prelude.{ℕ, ◌+◌, ◌-◌, ◌*◌, ◌^◌}

-- ---- pictures

-- the greatest side of a flat picture
abbrev pub most_flat : ℕ
most_flat = 16384

-- the greatest side of a solid one
abbrev pub most_solid : ℕ
most_solid = 1024

-- a flat picture has no more points
abbrev pub most_pixels : ℕ
most_pixels = most_flat * most_flat

-- no box has more points: a solid one may have more than each flat one
abbrev pub most_points : ℕ
most_points = most_solid * (most_solid * most_solid)

-- a framed box has no more points
abbrev pub most_framed : ℕ
most_framed = (most_solid + 2) * ((most_solid + 2) * (most_solid + 2))

-- a contour goes by no more points, and a flat picture has no more cracks
abbrev pub most_round : ℕ
most_round = 4 * most_pixels

-- a plain picture of so many points spells each with a digit and a space, and has room for its header and comments
abbrev pub most_bytes : ℕ
most_bytes = 4 * most_pixels

-- the greatest side of a flat picture that a seed gives
abbrev pub most_flat_trial : ℕ
most_flat_trial = 2048

-- the greatest side of a solid picture that a seed gives
abbrev pub most_solid_trial : ℕ
most_solid_trial = 192

-- the greatest length of a voxel's side, in the unit of its spacing
abbrev pub most_spacing : ℕ
most_spacing = 1000

-- ---- coordinates and distances

-- the greatest coordinate of a framed point, with room to spare
abbrev pub most_coordinate : ℕ
most_coordinate = 20000

-- two coordinates from -1 on are no farther apart
abbrev pub most_gap : ℕ
most_gap = most_coordinate + 1

-- the square of such a gap
abbrev pub most_square : ℕ
most_square = most_gap * most_gap

-- the number of a step within a box is no greater in size
abbrev pub most_offset : ℕ
most_offset = most_coordinate * most_coordinate * most_coordinate

-- a way that is longer than each line of a framed box
abbrev pub most_way : ℕ
most_way = 2 * most_coordinate

-- a squared distance that no two framed points have
abbrev pub far : ℕ
far = most_way * most_way

-- ---- lines of the plane

-- the greatest size of a coordinate that a line may hold
abbrev pub line_coordinate : ℕ
line_coordinate = 2 ^ 20

-- two such coordinates are no farther apart
abbrev pub line_gap : ℕ
line_gap = 2 * line_coordinate

-- the area of two such gaps, one of them with one more
abbrev pub line_area : ℕ
line_area = line_gap * (line_gap + 1)

-- a weight by which a line is refused is no greater
abbrev pub line_weight : ℕ
line_weight = 4 * (line_gap * line_gap)

-- ---- planes of space

-- two coordinates of a solid picture are no farther apart
abbrev pub plane_gap : ℕ
plane_gap = most_solid - 1

-- a combination of two rows
abbrev pub plane_row : ℕ
plane_row = 2 * (plane_gap * most_solid)

-- a bound of a span
abbrev pub plane_span : ℕ
plane_span = 4 * (most_solid * plane_row)

-- a coefficient of a solution
abbrev pub plane_coefficient : ℕ
plane_coefficient = 2 * plane_span

-- a weight by which a plane is refused is less
abbrev pub plane_weight : ℕ
plane_weight = 4 * (plane_row * plane_row)

-- a coefficient of a plane is less
abbrev pub plane_size : ℕ
plane_size = 2 ^ 47
