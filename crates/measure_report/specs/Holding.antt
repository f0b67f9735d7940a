-- What the table of a report tells that holds of a picture.
-- Geometry alone: components and their farthest points, least distances, contours and the stage in which the thinning ends.
use Rattle.std.specs.Prelude.{◌≡◌, ℕ, ◌+◌, ◌<◌, List, length, map}
use Rattle.shape_terms.specs.Thinning.{Rule, Stage, IsThinning}
use Rattle.report_terms.specs.Subjects.{Subject}
use Rattle.report_terms.specs.Lines.{Line}
use Rattle.report_terms.specs.ThinningLines.{events_of}
use Rattle.report_terms.specs.Sections.{Section, lines_of, number_of, NamesRule}
use Rattle.report_lines.specs.Reports.{Space, IsReport}
use Rattle.report_lines.specs.Tells.{AreSquares}
use Rattle.measure_terms.specs.Measures.{Measures}
use Rattle.measure_terms.specs.Components.{MeasuresComponents}
use Rattle.measure_terms.specs.Texts.{table_text}
use Rattle.measure_terms.specs.Borders.{Border}
use Rattle.measure_terms.specs.Shown.{BordersShow}
use Rattle.measure_terms.specs.HolesShown.{HolesShow}
use Rattle.measure_report.specs.Further.{Further, FurtherComponents}
use Rattle.measure_report.specs.FurtherColumns.{further_columns, tells_distances}
use Rattle.measure_report.specs.TableTexts.{IsTableText}
use Rattle.measure_report.specs.declared.groups.Groups.{Groups}

-- the bytes spell a table that has a row for each component of the picture, with its measures, where `squares` has the least squared distances `left` the
-- points that a thinning leaves, and in the plane the borders are those of the contours, of a report with the number 2 each with its length along the least
-- lines of its tangential cover, each row counts the holes of its component, and what the columns behind them tell is true of each component
pub record SpellsMeasures (g : Groups) (d : ℕ) (X : Subject) (lines : List Line) (bytes : List ℕ) : Type 0 where
  pub squares : List ℕ
  pub least : AreSquares X.picture squares
  pub rule : Rule
  pub names : NamesRule X.shelf (lines_of Section.Heading lines) rule
  pub stage : Stage
  pub thinning : IsThinning rule X.picture (events_of lines) stage
  pub rows : List Measures
  pub measures : MeasuresComponents X.picture squares stage.left rows
  pub borders : List Border
  pub shows : d ≡ 2 → BordersShow (number_of lines) X.picture borders
  pub holes : d ≡ 2 → (k : ℕ) → k < length rows → HolesShow X.picture measures.labels (k + 1) borders
  pub further : Further
  pub are : FurtherComponents g d X.picture measures.labels (length rows) further
  pub text : bytes ≡ table_text (tells_distances g d) d
      (further_columns g d (number_of lines) X.picture.sides measures.labels borders (map (λ (m : Measures). m.area) rows) further) rows

-- the text is a report in order, and where the bytes are the table of its lines with these groups of columns, they spell the measures of the picture's
-- components
pub record TableTells (g : Groups) (s : Space) (X : Subject) (text bytes : List ℕ) : Type 0 where
  pub lines : List Line
  pub report : IsReport s text lines
  pub told : IsTableText g s.axes lines bytes → SpellsMeasures g s.axes X lines bytes
