-- What an analysis tells: a report of the picture by a rule.
-- The report is one of the newest kind of its dimension.
use Rattle.std.specs.Prelude.{◌≡◌, ◌++◌, ℕ, List, length}
use Rattle.report_terms.specs.Subjects.{Subject}
use Rattle.report_terms.specs.Forms.{last_number}
use Rattle.report_terms.specs.Lines.{Line, Heading, line_text}
use Rattle.report_terms.specs.Holds.{HoldsBy}

-- the first line of the text gives this number
pub record GivesNumber (text : List ℕ) (number : ℕ) : Type 0 where
  pub heading : Heading
  pub rest : List ℕ
  pub is : text ≡ line_text (Line.Shape heading) ++ rest
  pub numbered : heading.number ≡ number

-- the text is a report of the picture by the rule with this name, with the greatest number that reports of its dimension have
pub record IsReportBy (X : Subject) (name text : List ℕ) : Type 0 where
  pub by : HoldsBy X name text
  pub newest : GivesNumber text (last_number (length X.picture.sides))
