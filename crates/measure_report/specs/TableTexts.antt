-- The bytes of the table of a report.
-- Rows, their spelling and borders stand in `measure_terms`.
use Rattle.std.specs.Prelude.{◌≡◌, ℕ, List, map}
use Rattle.report_terms.specs.Lines.{Line}
use Rattle.report_terms.specs.Sections.{number_of}
use Rattle.report_lines.specs.Said.{said}
use Rattle.measure_terms.specs.Measures.{Measures, greatest}
use Rattle.measure_terms.specs.Tables.{IsTable}
use Rattle.measure_terms.specs.Texts.{table_text}
use Rattle.measure_terms.specs.Borders.{borders}
use Rattle.measure_report.specs.Further.{Further, AreFurther}
use Rattle.measure_report.specs.FurtherColumns.{further_columns, tells_distances}
use Rattle.measure_report.specs.declared.groups.Groups.{Groups}

-- the bytes spell the table with these groups of columns of what the lines say of the points of a box with d axes, with the borders that they tell, whose
-- lengths stand there where the first line gives the number 2
pub record IsTableText (g : Groups) (d : ℕ) (lines : List Line) (bytes : List ℕ) : Type 0 where
  pub rows : List Measures
  pub table : IsTable (said lines).object (said lines).squares (said lines).left rows
  pub further : Further
  pub are : AreFurther g d (said lines).object (said lines).squares table.labels (greatest table.labels) further
  pub text : bytes ≡ table_text (tells_distances g d) d
      (further_columns g d (number_of lines) (said lines).object.sides table.labels (borders lines) (map (λ (m : Measures). m.area) rows) further) rows
