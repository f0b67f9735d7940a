-- What is kept of a flat picture's report for its drawing with numbers.
-- Each part says for itself what it stands for.
use Rattle.std.specs.Prelude.{◌≡◌, List}
use Rattle.report_terms.specs.Lines.{Line}
use Rattle.report_lines.specs.Said.{said}
use Rattle.drawing.specs.Standing.{IsSketchOf}
use Rattle.draw_report.specs.declared.numbered.Numbered.{Numbered}

-- the layers of these lines are kept, and what they say of the points of their box
pub record IsNumberedOf (lines : List Line) (n : Numbered) : Type 0 where
  pub sketch : IsSketchOf lines n.sketch
  pub seen : n.seen ≡ said lines
