-- What the borders of a report that holds are, in geometry: the contours of the picture, and where the report shows least lines, each measured along its
-- tangential cover.
-- No line stands here.
use Rattle.std.specs.Prelude.{◌≡◌, ℕ, List, length, map, pos}
use Rattle.shape_terms.specs.Limits.{most_flat}
use Rattle.shape_terms.specs.Points.{AreSides}
use Rattle.shape_terms.specs.Pictures.{Picture}
use Rattle.report_terms.specs.ContourFacts.{Segment, ContourFact, ContoursShow}
use Rattle.measure_terms.specs.Runs.{Run, run}
use Rattle.measure_terms.specs.Lengths.{contour_length}
use Rattle.measure_terms.specs.Borders.{Border}
use Rattle.measure_terms.specs.Begins.{BeginAsContours}

-- the picture is flat, with sides from 1 to the greatest of a flat picture
pub record IsFlat (X : Picture) : Type 0 where
  pub axes : length X.sides ≡ 2
  pub box : AreSides (pos most_flat) (map pos X.sides)

-- the run of a segment
abbrev pub run_shown : Segment → Run
run_shown s = run s.stretch.first s.stretch.last s.line.a

-- the border of a contour, as long as the contour is along all segments of its cover
abbrev pub border_shown : ContourFact → Border
border_shown f = record { start = f.outline.start; length = contour_length f.outline.points (map run_shown f.segments) }

-- the borders are those of the contours of the picture in their order, each with the length along the least lines of its tangential cover
pub record HaveLengths (X : Picture) (bs : List Border) : Type 0 where
  pub facts : List ContourFact
  pub contours : ContoursShow 2 X facts
  pub are : bs ≡ map border_shown facts

-- the borders begin where the contours of the picture do, in their order; those of a report with the number 2 of a picture with such sides have their lengths
-- too
pub record BordersShow (number : ℕ) (X : Picture) (bs : List Border) : Type 0 where
  pub begin : BeginAsContours X bs
  pub lengths : number ≡ 2 → IsFlat X → HaveLengths X bs
