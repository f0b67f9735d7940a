-- Where the numbers stand in the drawing of a report that holds of a flat picture, and that this drawing was written.
-- Components and least distances alone; what a run adds to the output stands in `shape_desk`.
use Rattle.std.specs.Prelude.{◌≡◌, ℕ, ◌+◌, ◌<◌, ◌≤◌, ◌==◌, Some, List, length, slice_index, slice_index_or}
use Rattle.std.specs.List.{Contains, find}
use Rattle.shape_terms.specs.Points.{Point, raster_number}
use Rattle.shape_terms.specs.Pictures.{Picture}
use Rattle.shape_terms.specs.Parts.{Object, NamesParts, LabelsObject}
use Rattle.shape_terms.specs.Adjacency.{Near}
use Rattle.shape_desk.specs.Desk.{DeskState, Puts}
use Rattle.report_terms.specs.Subjects.{Subject}
use Rattle.report_terms.specs.Lines.{Line}
use Rattle.report_lines.specs.Reports.{flat, IsReport}
use Rattle.report_lines.specs.Tells.{AreSquares}
use Rattle.measure_terms.specs.Components.{component}
use Rattle.draw_report.specs.Drawings.{IsNumberedText, numbered_drawing}

-- p is the first of the points with the greatest square
pub record IsDeepestOf (square : Point → ℕ) (ps : List Point) (p : Point) : Type 0 where
  pub point : Contains ps p
  pub bound : (q : Point) → Contains ps q → square q ≤ square p
  pub first : find (λ q. square q == square p) ps ≡ Some p

-- the numbers of the points in a box, in raster order, as a function of the point
abbrev pub at_point : Picture → List ℕ → Point → ℕ
at_point X numbers p = slice_index numbers (raster_number X.sides p)

-- a point for each component of the picture, in the order of their first points: the deepest of the component
pub record AreDeepest (X : Picture) (squares : List ℕ) (points : List Point) : Type 0 where
  pub labels : List ℕ
  pub named : LabelsObject X labels
  pub all : NamesParts Near (Object X) (length points) (at_point X labels)
  pub each : (k : ℕ) (d : Point) → k < length points
      → IsDeepestOf (at_point X squares) (component X labels (k + 1)) (slice_index_or points k d)

-- the bytes are a drawing with a number at the deepest point of each component of the picture, by its least squared distances
pub record NumbersComponents (X : Picture) (lines : List Line) (bytes : List ℕ) : Type 0 where
  pub squares : List ℕ
  pub least : AreSquares X squares
  pub points : List Point
  pub deepest : AreDeepest X squares points
  pub text : bytes ≡ numbered_drawing lines points

-- the text is a report in order, and where the bytes are the drawing of its lines with numbers, these stand at the deepest points of the picture's components
pub record NumbersTell (X : Subject) (text bytes : List ℕ) : Type 0 where
  pub lines : List Line
  pub report : IsReport flat text lines
  pub told : IsNumberedText lines bytes → NumbersComponents X.picture lines bytes

-- the text is a report in order, and the drawing of its lines was written with a number at the deepest point of each component of the picture
pub record WritesNumbered (X : Subject) (text : List ℕ) (old new : DeskState) : Type 0 where
  pub lines : List Line
  pub report : IsReport flat text lines
  pub bytes : List ℕ
  pub numbered : NumbersComponents X.picture lines bytes
  pub puts : Puts old.written new.written bytes
