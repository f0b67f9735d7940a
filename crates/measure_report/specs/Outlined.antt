-- What is kept of a flat picture's report for its table.
-- Each part says for itself what it stands for.
use Rattle.std.specs.Prelude.{◌≡◌, ◌<◌, List, length}
use Rattle.report_terms.specs.Lines.{Line}
use Rattle.report_terms.specs.Sections.{number_of}
use Rattle.report_lines.specs.Said.{said}
use Rattle.bordering.specs.Kept.{HasBorders}
use Rattle.measure_report.specs.declared.outlined.Outlined.{Outlined}

-- the number that the first of these lines gives is kept, what they say of the points of their box, and the borders of their contours
pub record IsOutlined (lines : List Line) (o : Outlined) : Type 0 where
  pub begun : 0 < length lines
  pub number : o.number ≡ number_of lines
  pub seen : o.seen ≡ said lines
  pub contours : HasBorders lines o.contours
