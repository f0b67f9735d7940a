-- The spelling of a table: a header, and a line for each object, its cells with commas between.
-- A further column is one more piece of `header` and of `cells`, in the same place.
use Rattle.std.specs.Prelude.{if◌then◌else◌, ℕ, ◌+◌, ◌/◌, ◌%◌, Bool, true, false, Option, Some, None, List, [], ◌∷◌, ◌++◌, codes, take, ℤ, nat_abs, cond}
use Rattle.std.specs.Prelude.{nat_eq}
use Rattle.std.specs.List.{flat_map}
use Rattle.std.specs.Fmt.{decimal, signed_decimal}
use Rattle.shape_terms.specs.Points.{Point, coordinate}
use Rattle.measure_terms.specs.Measures.{Measures}
use Rattle.measure_terms.specs.Rounding.{mean, root}

-- ---- cells

-- a whole number, behind a comma
abbrev pub whole : ℕ → List ℕ
whole n = codes "," ++ decimal n

-- a whole number that may be below 0, behind a comma
abbrev pub signed : ℤ → List ℕ
signed z = codes "," ++ signed_decimal z

-- three digits
abbrev pub three_digits : ℕ → List ℕ
three_digits n = (48 + n / 100 % 10) ∷ (48 + n / 10 % 10) ∷ (48 + n % 10) ∷ []

-- a number of thousandths as a decimal number with three digits, behind a comma
abbrev pub thousandths : ℕ → List ℕ
thousandths n = codes "," ++ (decimal (n / 1000) ++ (codes "." ++ three_digits (n % 1000)))

-- a cell of each axis of a space with d axes
abbrev pub each_axis : (cell : ℕ → List ℕ) (d x y z : ℕ) → List ℕ
each_axis cell d x y z = flat_map cell (take d (x ∷ y ∷ z ∷ []))

-- ---- rows

-- the coordinate of a point on an axis, and 0 where there is no point
abbrev pub place : Option Point → ℕ → ℕ
place None k = 0
place (Some p) k = nat_abs (coordinate p k)

-- the least and the greatest coordinates
abbrev pub box_text : ℕ → Measures → List ℕ
box_text d m = each_axis whole d m.x.least m.y.least m.z.least ++ each_axis whole d m.x.greatest m.y.greatest m.z.greatest

-- the means of the coordinates
abbrev pub centre_text : ℕ → Measures → List ℕ
centre_text d m = each_axis thousandths d (mean m.x.sum m.area) (mean m.y.sum m.area) (mean m.z.sum m.area)

-- the greatest distance to the background, and the point that has it first; empty cells where no distance is told
abbrev pub depth_text : (told : Bool) → ℕ → Measures → List ℕ
depth_text true d m = thousandths (root m.depth) ++ each_axis whole d (place m.deepest 0) (place m.deepest 1) (place m.deepest 2)
depth_text false d m = codes "," ++ each_axis (λ n. codes ",") d 0 0 0

-- the points left
abbrev pub skeleton_text : Measures → List ℕ
skeleton_text m = whole m.skeleton ++ (whole m.ends ++ whole m.junctions)

-- whether the object reaches the border of the box: 1 or 0
abbrev pub touches_text : Measures → List ℕ
touches_text m = whole (cond m.touches 1 0)

-- in space the exposed sides
abbrev pub sides_text : ℕ → Measures → List ℕ
sides_text d m = if nat_eq d 3 then whole m.exposed else []

-- how large the object is, and where it lies
abbrev pub size_text : ℕ → Measures → List ℕ
size_text d m = whole m.area ++ (box_text d m ++ centre_text d m)

-- how deep it is, what is left of it, and whether it may go on outside the box
abbrev pub form_text : (told : Bool) → ℕ → Measures → List ℕ
form_text told d m = depth_text told d m ++ (skeleton_text m ++ (touches_text m ++ sides_text d m))

-- all of them, with or without distances
abbrev pub cells : (told : Bool) → ℕ → Measures → List ℕ
cells told d m = size_text d m ++ form_text told d m

-- further columns of a table: their names, each behind a comma, and their cells in the row with a place, from 0 on
pub record Columns : Type 0 where
  pub names : List ℕ
  pub cells : ℕ → List ℕ

abbrev pub no_columns : Columns
no_columns = record { names = []; cells = λ i. [] }

-- the row with a place, from 0 on: the number of its object, from 1 on, and all cells
abbrev pub row_text : (told : Bool) (d : ℕ) → Columns → (i : ℕ) → Measures → List ℕ
row_text told d more i m = decimal (i + 1) ++ (cells told d m ++ (more.cells i ++ codes "\n"))

-- the rows from a place on
abbrev pub rows_text : (told : Bool) (d : ℕ) → Columns → (i : ℕ) → List Measures → List ℕ
rows_text told d more i [] = []
rows_text told d more i (m ∷ ms) = row_text told d more i m ++ rows_text told d more (i + 1) ms

-- ---- the whole

-- the names of the columns, in the plane and in space
abbrev pub header : Bool → List ℕ
header true = codes "object,area,left,top,right,bottom,x,y,radius,cx,cy,skeleton,ends,junctions,touches"
header false = codes "object,voxels,x0,y0,z0,x1,y1,z1,x,y,z,radius,cx,cy,cz,skeleton,ends,junctions,touches,sides"

-- the names of all columns
abbrev pub header_line : ℕ → Columns → List ℕ
header_line d more = header (nat_eq d 2) ++ (more.names ++ codes "\n")

-- the table of a picture of d axes with these measures and further columns, with or without distances
abbrev pub table_text : (told : Bool) → ℕ → Columns → List Measures → List ℕ
table_text told d more ms = header_line d more ++ rows_text told d more 0 ms
