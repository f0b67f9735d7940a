-- The columns of the convex hull of the corners of an object's pixels: its area and border, its least width, and the side across which it is.
-- Areas and lengths are spelled in pixels, with three digits behind the point.
use Rattle.std.specs.Prelude.{ℕ, ◌+◌, ◌/◌, List, ◌++◌, codes, pos, slice_index_or}
use Rattle.measure_terms.specs.HullSizes.{HullSize, convex_area}
use Rattle.measure_terms.specs.Texts.{Columns, signed, thousandths}

-- the length of the border in thousandths, rounded to nearest and a half up; its sides are told in millionths
abbrev pub convex_perimeter : HullSize → ℕ
convex_perimeter z = (z.perimeter + 500) / 1000

-- the cells of an object
abbrev pub hull_cells : HullSize → List ℕ
hull_cells z = thousandths (convex_area z) ++ (thousandths (convex_perimeter z) ++ (thousandths z.min_feret ++ (signed z.dx ++ signed z.dy)))

-- the numbers of no object, for a row without one
abbrev pub no_hull : HullSize
no_hull = record { double_area = 0; perimeter = 0; across = 0; length = 0; min_feret = 0; dx = pos 0; dy = pos 0 }

-- the columns of objects with these hulls
abbrev pub hull_columns : List HullSize → Columns
hull_columns zs = record { names = codes ",convex_area,convex_perimeter,min_feret,side_x,side_y"; cells = λ i. hull_cells (slice_index_or zs i no_hull) }
