-- The bytes of the drawing of a flat picture's report with the measures of its objects as lines.
-- Layers stand in `drawing`, lines in `MeasureLines`, what is measured in `Measured`.
use Rattle.std.specs.Prelude.{◌≡◌, ℕ, ⊤, ◌==◌, MatchBool, List, [], ◌++◌, codes}
use Rattle.shape_terms.specs.Parts.{LabelsObject}
use Rattle.report_terms.specs.Lines.{Line}
use Rattle.report_lines.specs.Said.{given_sides, said}
use Rattle.measure_terms.specs.Measures.{greatest}
use Rattle.drawing.specs.Svg.{report_layers}
use Rattle.draw_report.specs.MeasureLines.{measure_layer}
use Rattle.draw_report.specs.Measured.{Measured, shown_at, AreMeasured}
use Rattle.draw_report.specs.declared.measure_drawing.Nothing.{Nothing}

-- the drawing of a flat picture's report, and on top of its layers the lines of n objects
abbrev pub measured_drawing : List Line → (n : ℕ) → Measured → List ℕ
measured_drawing lines n m = report_layers lines ++ (measure_layer (given_sides lines) (shown_at m) n ++ codes "</svg>\n")

-- the bytes are the drawing of these lines with the measures of each object, in the order of the rows of their table
pub record IsMeasuredText (lines : List Line) (bytes : List ℕ) : Type 0 where
  pub labels : List ℕ
  pub named : LabelsObject (said lines).object labels
  pub measured : Measured
  pub are : AreMeasured (given_sides lines) labels (greatest labels) measured
  pub text : bytes ≡ measured_drawing lines (greatest labels) measured

-- the bytes are that drawing, where the lines are about a flat picture, and else none
abbrev pub IsMeasuredDrawing : ℕ → List Line → List ℕ → Type 0
IsMeasuredDrawing d lines bytes = MatchBool (d == 2) (IsMeasuredText lines bytes) (bytes ≡ [])

-- nothing is kept of a volume's report
abbrev pub IsNothingOf : List Line → Nothing → Type 0
IsNothingOf lines n = ⊤
