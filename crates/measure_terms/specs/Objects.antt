-- The borders of one object, told apart by the labels of their first points: its outer border, and those of its holes.
-- A line through the middles of pixels lies half a pixel inside the object.
use Rattle.std.specs.Prelude.{ℕ, ◌+◌, ◌-◌, ◌*◌, ◌/◌, ◌^◌, ◌==◌, Bool, if◌then◌else◌, List, map, filter, sum_by, count_by, slice_index}
use Rattle.std.specs.List.{range_with_len}
use Rattle.shape_terms.specs.Points.{Point, in_box, raster_number}
use Rattle.measure_terms.specs.Borders.{Border}

-- twice the square root of 2, in units: once round an object, half a pixel stands outside the line through the middles of its border's pixels
abbrev pub half_pixel : ℕ
half_pixel = 2828427124746

-- the contour of an outer border begins with the upper side of a pixel
abbrev pub is_outer : Border → Bool
is_outer b = b.start.side == 0

-- and that of a hole's border with the lower side
abbrev pub is_hole : Border → Bool
is_hole b = b.start.side == 2

-- the length of the edge of an object along its outer border, half a pixel outside the line
abbrev pub outer_length : Border → ℕ
outer_length b = b.length + half_pixel

-- and along a hole, half a pixel inside the line; not below 0
abbrev pub hole_length : Border → ℕ
hole_length b = b.length - half_pixel

-- what the borders of an object add up to: the length of the outer one, that of the holes', both in units, and how many holes there are
pub record Bounds : Type 0 where
  pub border : ℕ
  pub hole_border : ℕ
  pub holes : ℕ

abbrev pub bounds_of : List Border → Bounds
bounds_of bs = record {
  border = sum_by outer_length (filter is_outer bs);
  hole_border = sum_by hole_length (filter is_hole bs);
  holes = count_by is_hole bs;
}

-- the label of a point, and 0 outside the box
abbrev pub label_at : (sides labels : List ℕ) → Point → ℕ
label_at sides labels p = if in_box sides p then slice_index labels (raster_number sides p) else 0

-- the contour begins at a point of the object with this label
abbrev pub is_of : (sides labels : List ℕ) (k : ℕ) → Border → Bool
is_of sides labels k b = label_at sides labels b.start.pixel == k

-- the borders of the objects 1 to n
abbrev pub object_bounds : (sides labels : List ℕ) (n : ℕ) → List Border → List Bounds
object_bounds sides labels n bs = map (λ k. bounds_of (filter (is_of sides labels (k + 1)) bs)) (range_with_len 0 n)

-- a length in thousandths of a pixel, rounded to nearest, and a half up
abbrev pub thousandths : ℕ → ℕ
thousandths l = (l + 5 * 10 ^ 8) / 10 ^ 9
