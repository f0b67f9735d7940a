-- What a run wrote of a file whose text is known to be a report.
-- A law over the relation of a run, for every maker.
use Rattle.std.proofs.Common.{◌≡◌, ℕ, List, subst}
use Rattle.shape_desk.specs.Desk.{DeskState}
use Rattle.report_terms.specs.Lines.{Line}
use Rattle.report_lines.specs.Reports.{Space, IsReport}
use Rattle.report_lines.proofs.OneReading.{one_reading}
use Rattle.report_lines.specs.Made.{Maker, IsSpace, IsMadeOf}
use Rattle.report_lines.specs.Runs.{Ran}
use Rattle.report_lines.specs.Complete.{FileIs, WritesOf}
use Rattle.report_lines.specs.declared.outcome.Outcome.TheVariants.{Done}
use Rattle.report_lines.proofs.OneMaking.{same_space}
use Rattle.report_lines.proofs.Complete.{meet}

-- what is made of a report's text is made of its lines
pub made_of : (make : Maker) (text bytes : List ℕ) (s : Space) (lines : List Line) → IsSpace s → IsReport s text lines → IsMadeOf make text bytes
    → make s.axes lines bytes
made_of make text bytes s lines known report m =
    let space : m.space ≡ s = same_space text m.space s m.lines lines m.known known m.report report in
    let same : m.lines ≡ lines = one_reading s text m.lines lines (subst (λ u. IsReport u text m.lines) space m.report) report in
    subst (λ ls. make s.axes ls bytes) same (subst (λ (u : Space). make u.axes m.lines bytes) space m.made)

-- a run that ended well wrote what is made of the lines of the report in the file
pub writes_of : (make : Maker) (s : Space) (name text : List ℕ) (lines : List Line) (old new : DeskState) → IsSpace s → IsReport s text lines
    → FileIs old.files name (λ bytes. bytes ≡ text) → Ran make name old new Done → WritesOf make s lines old new
writes_of make s name text lines old new known report file ran =
    let m = meet old.files name (λ bytes. bytes ≡ text) (λ t. IsMadeOf make t ran.bytes) file ran.made in
    record { bytes = ran.bytes; made = made_of make text ran.bytes s lines known report (subst (λ t. IsMadeOf make t ran.bytes) m.1 m.2); puts = ran.puts }
