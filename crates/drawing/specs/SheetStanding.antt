-- What the program keeps of the lines so far.
-- Each part stands for the same lines; which texts these are lines of is told in `report_lines`.
use Rattle.std.specs.Prelude.{◌≡◌, List, fold}
use Rattle.shape_terms.specs.Points.{sides_of}
use Rattle.report_terms.specs.Lines.{Line}
use Rattle.report_lines.specs.Said.{given_sides, said}
use Rattle.drawing.specs.SolidSeen.{solid}
use Rattle.drawing.specs.Layout.{extent, sheet_sides}
use Rattle.drawing.specs.Canvas.{canvas_of}
use Rattle.drawing.specs.Dabs.{no_pen, pen_after, dabs_from}
use Rattle.drawing.specs.declared.sheet.Sheet.{Sheet}

-- a sheet of the lines, the first of which gives the sides of its box: the voxels of their faces are drawn, and what they say of the points of the box is kept
pub record IsSheetOf (lines : List Line) (s : Sheet) : Type 0 where
  pub given : given_sides lines ≡ sides_of (solid s.sides.lengths)
  pub pen : s.pen ≡ fold pen_after no_pen lines
  pub canvas : s.canvas ≡ canvas_of (sheet_sides (extent (sides_of (solid s.sides.lengths)))) (dabs_from (sides_of (solid s.sides.lengths)) no_pen lines)
  pub seen : s.seen ≡ said lines
