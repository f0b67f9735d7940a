-- What the text of a report that holds tells of the borders of its picture.
-- Geometry stands in `measure_terms`.
use Rattle.std.specs.Prelude.{◌≡◌, ℕ, List}
use Rattle.shape_terms.specs.Pictures.{Picture}
use Rattle.report_terms.specs.Lines.{Line, text_of}
use Rattle.report_terms.specs.Sections.{number_of}
use Rattle.measure_terms.specs.Borders.{borders}
use Rattle.measure_terms.specs.Shown.{BordersShow}

-- the text is made of lines whose borders are those of the picture's contours, with the number that the first line gives
pub record TellsBorders (X : Picture) (text : List ℕ) : Type 0 where
  pub lines : List Line
  pub is : text ≡ text_of lines
  pub shows : BordersShow (number_of lines) X (borders lines)
