-- The columns of borders in a table: how many holes an object has, the length of its outer border, and that of its holes' borders.
-- Lengths are spelled in pixels, with three digits behind the point, where the report tells them; else their cells are empty.
use Rattle.std.specs.Prelude.{ℕ, Bool, if◌then◌else◌, ◌==◌, List, ◌++◌, codes, slice_index_or}
use Rattle.measure_terms.specs.Texts as Texts
use Rattle.measure_terms.specs.Texts.{Columns, whole}
use Rattle.measure_terms.specs.Objects.{Bounds, thousandths}
use Rattle.bordering.specs.OneMore.{no_bounds}

-- a report with this number shows its lines to be least, so it tells lengths along them; of any other the lines may be others
abbrev pub tells_lengths : (number : ℕ) → Bool
tells_lengths number = number == 2

-- a length, and no digit where none is told
abbrev pub length_cell : (told : Bool) → ℕ → List ℕ
length_cell told l = if told then Texts.thousandths (thousandths l) else codes ","

-- the cells of an object
abbrev pub border_cells : (told : Bool) → Bounds → List ℕ
border_cells told b = whole b.holes ++ (length_cell told b.border ++ length_cell told b.hole_border)

-- the columns of objects with these borders, with or without lengths
abbrev pub border_columns : (told : Bool) → List Bounds → Columns
border_columns told bs = record { names = codes ",holes,border,hole_border"; cells = λ i. border_cells told (slice_index_or bs i no_bounds) }
