-- What checking a report answers, and where a check stands in it.
-- Which lines are good, the report says; what a judge knows of them is handed in.
use Rattle.std.specs.Prelude.{ℕ, ◌≤◌, ◌^◌, ⊤, List, Option, Result, Ok, Err}
use Rattle.shape_desk.specs.Desk.{DeskState, Rose}
use Rattle.shape_desk.specs.Line.{IfTold}
use Rattle.shape_desk.specs.declared.desk.Place.TheVariants as Places
use Rattle.text_terms.specs.Reports.{Report, Holds, FirstBad}
use Rattle.text_terms.specs.Going.{GoingOn, TakesFew, IsTextOf}
use Rattle.report_text.specs.declared.answer.CheckFault.{CheckFault}
use Rattle.report_text.specs.declared.answer.CheckFault.TheVariants.{ReadFault, NoMemory}
use Rattle.report_text.specs.declared.answer.Judgement.{Judgement}
use Rattle.report_text.specs.declared.answer.Judgement.TheVariants.{Yes, No}

-- the number of a line, as far as lines are counted
pub record IsLineNumber (k : ℕ) : Type 0 where
  pub some : 1 ≤ k
  pub few : k ≤ 2 ^ 63

-- what is answered
abbrev pub Answer : Type 0
Answer = Result Judgement CheckFault

-- what a fault tells of the count of faults of reading before and now: for a fault of reading it rose
abbrev pub HasCause : (before now : ℕ) → CheckFault → Type 0
HasCause before now ReadFault = Rose before now
HasCause before now NoMemory = ⊤

-- `text` is the bytes of the report, where they are told; then the count of faults of reading before and now.
-- Yes: the text holds. No: the line is the first bad one.
abbrev pub Checks : {L : Type 0} → Report L → Option (List ℕ) → (before now : ℕ) → Answer → Type 0
Checks R text before now (Ok Yes) = IfTold text (Holds R)
Checks R text before now (Ok (No k)) = IsLineNumber k × IfTold text (λ bytes. FirstBad R bytes k)
Checks R text before now (Err fault) = HasCause before now fault

-- a check of a report with this text, where it is told, led from one state of the desk to the next: what was answered, and how much
-- of the text was taken
pub record HasChecked {L : Type 0} (R : Report L) (text : Option (List ℕ)) (old new : DeskState) (result : Answer) : Type 0 where
  pub answer : Checks R text old.read_faults new.read_faults result
  pub taken : IfTold text (λ t. TakesFew R t (new.left Places.Report))

-- after Yes the text is one of good lines, of which F is known
abbrev pub KeepsLines : {L : Type 0} → Report L → (List L → Type 0) → Option (List ℕ) → Answer → Type 0
KeepsLines R F text (Ok Yes) = IfTold text (IsTextOf R F)
KeepsLines R F text (Ok (No k)) = ⊤
KeepsLines R F text (Err fault) = ⊤

-- the check has come to line n of a text: where the text is told, it begins with good lines of which F is known, and these bytes are left
abbrev pub HasCome : {L : Type 0} → Report L → (List L → Type 0) → (text left : Option (List ℕ)) → ℕ → Type 0
HasCome R F text left n = IfTold text (λ t. GoingOn R t left F n)
