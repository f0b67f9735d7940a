-- Pairs that are known, as rows, with the first slopes that they leave.
-- How those are found belongs elsewhere.
use Rattle.std.specs.Prelude.{◌≡◌, List, length}
use Rattle.shape_plane.specs.declared.row.Row.{Row}
use Rattle.shape_plane.specs.declared.range.Narrowed.{Narrowed}
use Rattle.shape_plane.specs.declared.known.Mark.{Mark}
use Rattle.shape_plane.specs.Rows.{IsSystem}
use Rattle.shape_plane.specs.Ranges.{HasWhole}

-- the rows are those of pairs behind the bounding ones, and the first slopes are what all of them leave
pub record IsKnown (rows : List Row) (first : Narrowed) : Type 0 where
  pub system : IsSystem rows
  pub whole : HasWhole rows (length rows) first

-- the mark is of these rows
pub record IsMark (mark : Mark) (rows : List Row) : Type 0 where
  pub count : mark.count ≡ length rows
  pub known : IsKnown rows mark.first
