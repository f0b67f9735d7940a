-- What the lines of measures tell in the drawing of a report that holds of a flat picture, and that this drawing was written.
-- Components and their measures alone; what a run adds to the output stands in `shape_desk`.
use Rattle.std.specs.Prelude.{◌≡◌, ℕ, List}
use Rattle.shape_terms.specs.Pictures.{Picture}
use Rattle.shape_terms.specs.Parts.{Object, NamesParts, LabelsObject}
use Rattle.shape_terms.specs.Adjacency.{Near}
use Rattle.shape_desk.specs.Desk.{DeskState, Puts}
use Rattle.report_terms.specs.Subjects.{Subject}
use Rattle.report_terms.specs.Lines.{Line}
use Rattle.report_lines.specs.Reports.{flat, IsReport}
use Rattle.draw_report.specs.Holding.{at_point}
use Rattle.draw_report.specs.Measured.{Measured, MeasuredComponents}
use Rattle.draw_report.specs.MeasureDrawings.{IsMeasuredText, measured_drawing}

-- the bytes are a drawing with the lines of each component of the picture, in the order of their first points: those of its own measures
pub record LinesComponents (X : Picture) (lines : List Line) (bytes : List ℕ) : Type 0 where
  pub labels : List ℕ
  pub named : LabelsObject X labels
  pub count : ℕ
  pub all : NamesParts Near (Object X) count (at_point X labels)
  pub measured : Measured
  pub are : MeasuredComponents X labels count measured
  pub text : bytes ≡ measured_drawing lines count measured

-- the text is a report in order, and where the bytes are the drawing of its lines with measures, these are those of the picture's components
pub record MeasuresTell (X : Subject) (text bytes : List ℕ) : Type 0 where
  pub lines : List Line
  pub report : IsReport flat text lines
  pub told : IsMeasuredText lines bytes → LinesComponents X.picture lines bytes

-- the text is a report in order, and the drawing of its lines was written with the measures of each component of the picture
pub record WritesMeasured (X : Subject) (text : List ℕ) (old new : DeskState) : Type 0 where
  pub lines : List Line
  pub report : IsReport flat text lines
  pub bytes : List ℕ
  pub measured : LinesComponents X.picture lines bytes
  pub puts : Puts old.written new.written bytes
