-- What the program's sizes of hulls mean, and those of an object by its rows.
-- A further number is one more field here.
use Rattle.std.specs.Prelude.{◌≡◌, ℕ, ◌<◌, ◌≤◌, List, map, length, slice_index_or}
use Rattle.measure_terms.specs.Hulls.{Corner, IsHull}
use Rattle.measure_terms.specs.Widths.{Width}
use Rattle.measure_terms.specs.HullSizes as Terms
use Rattle.measure_terms.specs.HullSizes.{IsSizeOfPolygon}
use Rattle.measuring.specs.declared.object_row.Row.{Row}
use Rattle.measuring.specs.declared.outline.Outline.{Outline}
use Rattle.measuring.specs.declared.size.HullSize.{HullSize}
use Rattle.measuring.specs.Corners.{IsCornerOfRows}

abbrev pub hull_told : HullSize → Terms.HullSize
hull_told z = record {
  double_area = z.double_area;
  perimeter = z.perimeter;
  across = z.across;
  length = z.length;
  min_feret = z.min_feret;
  dx = z.dx;
  dy =
      z.dy;
}

abbrev pub hulls_told : List HullSize → List Terms.HullSize
hulls_told zs = map hull_told zs

-- the numbers are those of a polygon
pub record HasSize (h : List Corner) (z : Terms.HullSize) : Type 0 where
  pub width : Width
  pub size : IsSizeOfPolygon h width z

-- the numbers are those of the hull of the corners of rows
pub record IsSizeOfRows (rows : List Row) (z : Terms.HullSize) : Type 0 where
  pub hull : List Corner
  pub is : IsHull (IsCornerOfRows rows (length rows)) hull
  pub size : HasSize hull z

-- of each of the first n objects the size of its hull, where it has a row
pub record HaveSizes (all : List Outline) (n : ℕ) (zs : List HullSize) : Type 0 where
  pub count : length zs ≡ n
  pub each : (k : ℕ) (o : Outline) (z : HullSize) → k < n → 1 ≤ length (slice_index_or all k o).rows.items
      → IsSizeOfRows (slice_index_or all k o).rows.items (hull_told (slice_index_or zs k z))
