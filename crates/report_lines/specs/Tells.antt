-- What the lines of a report that holds tell of the points of its box.
-- Geometry alone: the picture, least distances and the stage in which the thinning ends.
use Rattle.std.specs.Prelude.{◌≡◌, ℕ, IsTrue, false, List, map, length, pos, slice_get, Some}
use Rattle.shape_terms.specs.Points.{AreSides, box_count, raster_point}
use Rattle.shape_terms.specs.Pictures.{Picture, IsPicture, at}
use Rattle.shape_terms.specs.Thinning.{Rule, Stage, HasDistance, IsThinning}
use Rattle.report_terms.specs.Subjects.{Subject}
use Rattle.report_terms.specs.Lines.{Line}
use Rattle.report_terms.specs.ThinningLines.{events_of}
use Rattle.report_terms.specs.Sections.{Section, lines_of, NamesRule}
use Rattle.report_lines.specs.Reports.{Space, IsReport}
use Rattle.report_lines.specs.Said.{said}

-- the picture is one of the space, and stands in a box of it
pub record StandsIn (s : Space) (X : Picture) : Type 0 where
  pub picture : IsPicture s.axes X
  pub box : AreSides s.greatest (map pos X.sides)

-- a number for each point of the box, in raster order: the squared distance of an object point to the background, and 0 for a background point
pub record AreSquares (X : Picture) (squares : List ℕ) : Type 0 where
  pub all : length squares ≡ box_count X.sides
  pub object : (i n : ℕ) → slice_get squares i ≡ Some n → IsTrue (at X (raster_point X.sides i)) → HasDistance X (raster_point X.sides i) n
  pub background : (i n : ℕ) → slice_get squares i ≡ Some n → at X (raster_point X.sides i) ≡ false → n ≡ 0

-- the text is a report in order, and its lines tell the picture, its least squared distances, and what the thinning by the rule that they name leaves
pub record Tells (s : Space) (X : Subject) (text : List ℕ) : Type 0 where
  pub lines : List Line
  pub report : IsReport s text lines
  pub object : (said lines).object ≡ X.picture
  pub squares : AreSquares X.picture (said lines).squares
  pub rule : Rule
  pub names : NamesRule X.shelf (lines_of Section.Heading lines) rule
  pub stage : Stage
  pub thinning : IsThinning rule X.picture (events_of lines) stage
  pub left : (said lines).left ≡ stage.left
