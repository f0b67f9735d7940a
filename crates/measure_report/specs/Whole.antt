-- What a run wrote that makes the table of a report that holds of a picture.
-- From the bytes of the file that was read to those that were written; what the bytes spell stands in `Holding`.
use Rattle.std.specs.Prelude.{◌≡◌, ℕ, List}
use Rattle.shape_desk.specs.Desk.{DeskState, Puts}
use Rattle.report_terms.specs.Subjects.{Subject}
use Rattle.report_terms.specs.Lines.{Line}
use Rattle.report_terms.specs.Holds.{Holds}
use Rattle.report_lines.specs.Reports.{Space, IsReport}
use Rattle.report_lines.specs.Runs.{Ran}
use Rattle.report_lines.specs.Complete.{FileIs}
use Rattle.report_lines.specs.declared.outcome.Outcome.TheVariants.{Done}
use Rattle.measure_report.specs.TableTexts.{IsTableText}
use Rattle.measure_report.specs.Holding.{SpellsMeasures}
use Rattle.measure_report.specs.Tabled.{Opens}
use Rattle.measure_report.specs.declared.groups.Groups.{Groups}

-- bytes were written that spell the measures of the picture's components, by the lines that the text is of
pub record WritesMeasures (g : Groups) (s : Space) (X : Subject) (text : List ℕ) (old new : DeskState) : Type 0 where
  pub lines : List Line
  pub report : IsReport s text lines
  pub bytes : List ℕ
  pub spells : SpellsMeasures g s.axes X lines bytes
  pub puts : Puts old.written new.written bytes

-- a run ended well for a file whose text is a report with this number and of the rule with this name, and holds of the picture
pub record RanWhole (g : Groups) (s : Space) (X : Subject) (number : ℕ) (rule : List ℕ) (old new : DeskState) : Type 0 where
  pub text : List ℕ
  pub holds : Holds X text
  pub lines : List Line
  pub report : IsReport s text lines
  pub opens : Opens number rule lines
  pub name : List ℕ
  pub file : FileIs old.files name (λ bytes. bytes ≡ text)
  pub ran : Ran (IsTableText g) name old new Done

-- one run and another wrote the same bytes
pub record WriteAlike (old new before after : DeskState) : Type 0 where
  pub bytes : List ℕ
  pub one : Puts old.written new.written bytes
  pub other : Puts before.written after.written bytes
