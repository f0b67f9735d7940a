-- What is known of the good lines while a report is checked.
-- How far a check has come in a text is told in `report_text`.
use Rattle.std.specs.Prelude.{◌≡◌, ℕ, List, []}
use Rattle.shape_terms.specs.Thinning.{Rule}
use Rattle.report_terms.specs.Subjects.{Subject}
use Rattle.report_terms.specs.Lines.{Line}
use Rattle.report_terms.specs.Sections.{Section, lines_of, HasCome}
use Rattle.shape_check.specs.Rows.{IsRuledBy}

-- the heading names the rule, and a row of judges stands for the lines by the number that the heading has
pub record Ruled (X : Subject) (rule : Rule) (F : ℕ → List Line → Type 0) (lines : List Line) : Type 0 where
  pub number : ℕ
  pub ruled : IsRuledBy X (lines_of Section.Heading lines) number rule
  pub follows : F number lines

-- the heading has the number and names the rule, and the section s comes next
pub record BehindHeading (X : Subject) (number : ℕ) (rule : Rule) (s : Section) (lines : List Line) : Type 0 where
  pub ruled : IsRuledBy X (lines_of Section.Heading lines) number rule
  pub come : HasCome X s lines
  pub none : lines_of s lines ≡ []
