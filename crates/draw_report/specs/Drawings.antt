-- The bytes of the drawing of a report, without the numbers of the objects and with them.
-- Layers stand in `drawing`, rows of objects in `measure_terms`.
use Rattle.std.specs.Prelude.{◌≡◌, ℕ, ◌==◌, MatchBool, if◌then◌else◌, List, ◌++◌, codes, map}
use Rattle.shape_terms.specs.Points.{Point}
use Rattle.report_terms.specs.Lines.{Line}
use Rattle.report_lines.specs.Said.{given_sides, said}
use Rattle.measure_terms.specs.Measures.{Measures}
use Rattle.measure_terms.specs.Tables.{IsTable}
use Rattle.drawing.specs.Svg.{report_layers, drawing, contour_drawing}
use Rattle.draw_report.specs.Numbers.{deepest_point, number_layer}
use Rattle.drawing.specs.Sheets.{sheet}

-- the bytes are the drawing of these lines about a picture with so many axes
abbrev pub IsDrawing : ℕ → List Line → List ℕ → Type 0
IsDrawing d lines bytes = bytes ≡ (if d == 2 then drawing lines else sheet lines)

-- the drawing of a flat picture's report, and on top of its layers a number at each of the points
abbrev pub numbered_drawing : List Line → List Point → List ℕ
numbered_drawing lines ps = report_layers lines ++ (number_layer (given_sides lines) ps ++ codes "</svg>\n")

-- the bytes are the drawing of these lines with the number of each row of their table at the deepest point of its object
pub record IsNumberedText (lines : List Line) (bytes : List ℕ) : Type 0 where
  pub rows : List Measures
  pub table : IsTable (said lines).object (said lines).squares (said lines).left rows
  pub text : bytes ≡ numbered_drawing lines (map deepest_point rows)

-- the bytes are the drawing of these lines with numbers, where they are about a flat picture
abbrev pub IsNumberedDrawing : ℕ → List Line → List ℕ → Type 0
IsNumberedDrawing d lines bytes = MatchBool (d == 2) (IsNumberedText lines bytes) (bytes ≡ sheet lines)

-- the bytes are the drawing of the contours of these lines alone, where they are about a flat picture
abbrev pub IsContourDrawing : ℕ → List Line → List ℕ → Type 0
IsContourDrawing d lines bytes = bytes ≡ (if d == 2 then contour_drawing lines else sheet lines)
