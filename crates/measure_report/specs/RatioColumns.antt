-- The columns of ratios that have no unit: how much of its convex hull an object fills, and how round its outer border is.
-- Both are rounded to nearest in thousandths; what the area and the lengths are is known to the other columns.
use Rattle.std.specs.Prelude.{ℕ, ◌+◌, ◌*◌, ◌/◌, Bool, if◌then◌else◌, List, ◌++◌, codes, slice_index, slice_index_or}
use Rattle.measure_terms.specs.HullSizes.{HullSize}
use Rattle.measure_terms.specs.Rounding.{mean}
use Rattle.measure_terms.specs.Texts as Texts
use Rattle.measure_terms.specs.Texts.{Columns}
use Rattle.measure_terms.specs.Objects.{Bounds, thousandths}
use Rattle.bordering.specs.OneMore.{no_bounds}
use Rattle.measure_report.specs.HullColumns.{no_hull}

-- how many pixels an object has, twice the area of its convex hull, and the length of its outer border in thousandths
pub record Sizes : Type 0 where
  pub area : ℕ
  pub double_area : ℕ
  pub border : ℕ

-- its area over that of its convex hull, in thousandths
abbrev pub solidity : Sizes → ℕ
solidity s = mean (2 * s.area) s.double_area

-- 4 pi rounded to twelve places, in units of the last one
abbrev pub four_pi : ℕ
four_pi = 12566370614359

-- 4 pi times the area over the square of the border's length, in thousandths, rounded to nearest and a half up; and 0 where the border has no length
abbrev pub circularity : Sizes → ℕ
circularity s = (2 * (four_pi * s.area) + 1000 * (s.border * s.border)) / (2000 * (s.border * s.border))

-- the cells of an object, with or without what goes by the length of its border
abbrev pub ratio_cells : (told : Bool) → Sizes → List ℕ
ratio_cells told s = Texts.thousandths (solidity s) ++ (if told then Texts.thousandths (circularity s) else codes ",")

-- those of the object in the row with a place, off the columns that tell them
abbrev pub sizes_at : List ℕ → List HullSize → List Bounds → ℕ → Sizes
sizes_at areas hulls bounds i = record {
  area = slice_index areas i;
  double_area = (slice_index_or hulls i no_hull).double_area;
  border = thousandths (slice_index_or bounds i no_bounds).border;
}

-- the names of the columns
abbrev pub ratio_names : List ℕ
ratio_names = codes ",solidity,circularity"

-- the columns of objects with these areas, hulls and borders
abbrev pub ratio_columns : (told : Bool) → List ℕ → List HullSize → List Bounds → Columns
ratio_columns told areas hulls bounds = record { names = ratio_names; cells = λ i. ratio_cells told (sizes_at areas hulls bounds i) }
