-- What is shown at each place of a grid of cells on which dabs of ink are laid: at each place the nearest dab, and of equally near ones the first.
-- Where the dabs come from does not matter here. A dab outside the grid is not shown.
use Rattle.std.specs.Prelude.{ℕ, nat_lt, if◌then◌else◌, List, map, filter, fold, slice_set, slice_index_or, Option, Some, None}
use Rattle.shape_terms.specs.Points.{Point, in_box, raster_number}
use Rattle.report_lines.specs.Said.{is_same_point, values_of}
use Rattle.drawing.specs.declared.cell.Cell.{Cell}

-- a cell of ink at a place
pub record Dab : Type 0 where
  pub place : Point
  pub cell : Cell

-- a grid of cells: its sides, and what is shown at each place, in raster order
pub record Canvas : Type 0 where
  pub sides : List ℕ
  pub cells : List (Option Cell)

-- what is shown where this was shown before and one more cell is laid on it
abbrev pub nearer : Option Cell → Cell → Option Cell
nearer None c = Some c
nearer (Some b) c = if nat_lt c.depth b.depth then Some c else Some b

-- the cells of the dabs at a place
abbrev pub cells_at : List Dab → Point → List Cell
cells_at dabs q = map (λ (d : Dab). d.cell) (filter (λ d. is_same_point q d.place) dabs)

-- what is shown at a place
abbrev pub shown : List Dab → Point → Option Cell
shown dabs q = fold nearer None (cells_at dabs q)

-- the grid with these sides on which the dabs are laid
abbrev pub canvas_of : List ℕ → List Dab → Canvas
canvas_of sides dabs = record { sides = sides; cells = values_of sides (shown dabs) }

-- what a grid shows at a place
abbrev pub cell_at : Canvas → Point → Option Cell
cell_at C q = slice_index_or C.cells (raster_number C.sides q) None

-- ---- while dabs come

-- the grid with one more dab
abbrev pub laid_on : Canvas → Dab → Canvas
laid_on C d = if in_box C.sides d.place then
    record { sides = C.sides; cells = slice_set C.cells (raster_number C.sides d.place) (nearer (cell_at C d.place) d.cell) } else C

-- the grid with more dabs, one after another
abbrev pub laid_all : Canvas → List Dab → Canvas
laid_all C dabs = fold laid_on C dabs
