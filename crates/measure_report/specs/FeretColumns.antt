-- The columns of Feret diameters in a table: the greatest distance of two points of an object, and the two points.
-- The distance is spelled in pixels or voxels, with three digits behind the point.
use Rattle.std.specs.Prelude.{if◌then◌else◌, ℕ, Bool, List, [], ◌∷◌, ◌++◌, codes, pos, slice_index_or, Some, take}
use Rattle.shape_terms.specs.Points.{Point}
use Rattle.measure_terms.specs.Feret.{Feret}
use Rattle.measure_terms.specs.Rounding.{root}
use Rattle.measure_terms.specs.Texts.{Columns, place, whole, thousandths}

-- how many axes there are
abbrev pub axes : (solid : Bool) → ℕ
axes solid = if solid then 3 else 2

-- two coordinates or three
abbrev pub coordinate_cells : (solid : Bool) → (x y z : ℕ) → List ℕ
coordinate_cells solid x y z = whole x ++ (whole y ++ (if solid then whole z else []))

-- the coordinates of a point
abbrev pub point_cells : (solid : Bool) → Point → List ℕ
point_cells solid p = coordinate_cells solid (place (Some p) 0) (place (Some p) 1) (place (Some p) 2)

-- the cells of an object
abbrev pub feret_cells : (solid : Bool) → Feret → List ℕ
feret_cells solid f = thousandths (root f.square) ++ (point_cells solid f.from ++ point_cells solid f.to)

-- the origin
abbrev pub origin : (solid : Bool) → Point
origin solid = take (axes solid) (pos 0 ∷ pos 0 ∷ pos 0 ∷ [])

-- no distance, for a row without an object
abbrev pub no_feret : (solid : Bool) → Feret
no_feret solid = record { square = 0; from = origin solid; to = origin solid }

-- the names
abbrev pub feret_names : (solid : Bool) → List ℕ
feret_names solid = if solid then codes ",feret,from_x,from_y,from_z,to_x,to_y,to_z" else codes ",feret,from_x,from_y,to_x,to_y"

-- the columns of objects with these diameters
abbrev pub feret_columns : (solid : Bool) → List Feret → Columns
feret_columns solid fs = record { names = feret_names solid; cells = λ i. feret_cells solid (slice_index_or fs i (no_feret solid)) }
