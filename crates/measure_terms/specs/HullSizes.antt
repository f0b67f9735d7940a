-- How large the convex hull of the corners of an object of the plane is: its area, its border and its least width.
-- A further number is one more field of `HullSize` and of `IsHullSize`.
use Rattle.std.specs.Prelude.{◌≡◌, ℕ, ◌+◌, ◌*◌, ◌<◌, List, length, slice_index_or, ℤ, pos, ◌-ℤ◌, Contains}
use Rattle.shape_terms.specs.Points.{Point}
use Rattle.shape_terms.specs.Pictures.{Picture}
use Rattle.measure_terms.specs.Rounding.{IsQuotientRoot}
use Rattle.measure_terms.specs.Feret.{HasLabel}
use Rattle.measure_terms.specs.Components.{component}
use Rattle.measure_terms.specs.Hulls.{Corner, IsCornerOf, IsHull, vertex, end}
use Rattle.measure_terms.specs.Polygons.{double_area, perimeter}
use Rattle.measure_terms.specs.Widths.{Width, IsLeastSide}

-- ---- sizes

pub record HullSize : Type 0 where
  -- twice the area
  pub double_area : ℕ
  -- the lengths of the sides, each rounded to nearest in millionths, added up
  pub perimeter : ℕ
  -- the least width is `across` by the root of `length`
  pub across : ℕ
  pub length : ℕ
  -- the least width in thousandths, rounded to nearest and a half up
  pub min_feret : ℕ
  -- the step along the side across which it is so wide
  pub dx : ℤ
  pub dy : ℤ

-- the numbers are those of a polygon, and its least width across a side is this one
pub record IsSizeOfPolygon (h : List Corner) (w : Width) (z : HullSize) : Type 0 where
  pub double_area : pos z.double_area ≡ double_area h
  pub perimeter : pos z.perimeter ≡ perimeter h
  pub least : IsLeastSide h (length h) w
  pub across : pos z.across ≡ w.across
  pub length : pos z.length ≡ w.length
  pub min_feret : IsQuotientRoot (z.across * z.across) z.length z.min_feret
  pub dx : z.dx ≡ (end h w.side).x -ℤ (vertex h w.side).x
  pub dy : z.dy ≡ (end h w.side).y -ℤ (vertex h w.side).y

-- the numbers are those of the convex hull of the corners of a set of pixels
pub record IsHullSize (S : Point → Type 0) (z : HullSize) : Type 0 where
  pub hull : List Corner
  pub is : IsHull (IsCornerOf S) hull
  pub width : Width
  pub size : IsSizeOfPolygon hull width z

-- ---- of all objects

-- those of the objects 1 to n of a box, each the pixels with its label, where an object has a pixel
pub record AreHulls (sides labels : List ℕ) (n : ℕ) (zs : List HullSize) : Type 0 where
  pub each : (k : ℕ) (d : HullSize) (p : Point) → k < n → HasLabel sides labels (k + 1) p → IsHullSize (HasLabel sides labels (k + 1)) (slice_index_or zs k d)

-- those of the first n components of a picture, by their labels
pub record HullsComponents (X : Picture) (labels : List ℕ) (n : ℕ) (zs : List HullSize) : Type 0 where
  pub each : (k : ℕ) (d : HullSize) → k < n → IsHullSize (Contains (component X labels (k + 1))) (slice_index_or zs k d)

-- ---- columns of a table

-- the area in thousandths
abbrev pub convex_area : HullSize → ℕ
convex_area z = 500 * z.double_area
