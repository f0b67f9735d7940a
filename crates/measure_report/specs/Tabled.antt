-- When bytes are the table of a report that holds of a picture.
-- How a table is spelled stands in `TableTexts`.
use Rattle.std.specs.Prelude.{◌≡◌, ℕ, List, ◌∷◌}
use Rattle.report_terms.specs.Subjects.{Subject}
use Rattle.report_terms.specs.Lines.{Line, Heading}
use Rattle.report_terms.specs.Holds.{Holds}
use Rattle.report_lines.specs.Reports.{Space, IsReport}
use Rattle.measure_report.specs.TableTexts.{IsTableText}
use Rattle.measure_report.specs.declared.groups.Groups.{Groups}

-- the first of the lines is a heading, which gives the number and names the rule with this name
pub record Opens (number : ℕ) (name : List ℕ) (lines : List Line) : Type 0 where
  pub heading : Heading
  pub rest : List Line
  pub first : lines ≡ Line.Shape heading ∷ rest
  pub number_is : heading.number ≡ number
  pub rule_is : heading.rule ≡ name

-- the text is a report with this number and of the rule with this name, it holds of the picture, and the bytes are the table of its lines with these groups of
-- columns
pub record HasTable (g : Groups) (s : Space) (X : Subject) (number : ℕ) (name text bytes : List ℕ) : Type 0 where
  pub holds : Holds X text
  pub lines : List Line
  pub report : IsReport s text lines
  pub opens : Opens number name lines
  pub table : IsTableText g s.axes lines bytes
