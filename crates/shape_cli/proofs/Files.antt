-- What is left at a place that was begun is the file with the name.
-- Laws of what a desk tells, over plain values.
use Rattle.std.proofs.Common.{inl, ◌≤◌, ℕ, List}
use Rattle.std.specs.Prelude.{Option, None, Some, Result, Ok, Err}
use Rattle.shape_terms.specs.Pictures.{Picture}
use Rattle.shape_terms.specs.Thinning.{Rule}
use Rattle.shape_terms.specs.Shelves.{Named}
use Rattle.text_terms.specs.Reports.{Holds}
use Rattle.shape_desk.specs.Desk.{DeskState, IsAtFront}
use Rattle.shape_desk.specs.declared.desk.Place.TheVariants.{Report}
use Rattle.shape_desk.specs.Line.{IfTold}
use Rattle.report_text.specs.Checks.{HasChecked}
use Rattle.report_text.specs.declared.answer.Judgement.{Judgement}
use Rattle.report_text.specs.declared.answer.Judgement.TheVariants as judgement
use Rattle.report_text.specs.declared.answer.CheckFault.{CheckFault}
use Rattle.report_text.specs.declared.answer.CheckFault.TheVariants as check
use Rattle.shape_cli.specs.Kinds.{ReportKind, report_of, ShowsOf}
use Rattle.shape_desk.proofs.Begun.{of_file, rose_earlier}
use Rattle.shape_cli.specs.Parts.{Judged}

-- what is left at a place holds more weakly
pub weaker : (left : Option (List ℕ)) (P Q : List ℕ → Type 0) → ((bytes : List ℕ) → P bytes → Q bytes) → IfTold left P → IfTold left Q
weaker None P Q f h = tt
weaker (Some bytes) P Q f h = f bytes h

-- what the check of a file's report tells of the file
pub judged : (shelf : List (Named Rule)) (kind : ReportKind) (X : Picture) (report : List ℕ) (old mid new : DeskState) (r : Result Judgement CheckFault)
    → IsAtFront old.files report (mid.left Report) → old.read_faults ≤ mid.read_faults
    → ((bytes : List ℕ) → Holds (report_of shelf kind X) bytes → ShowsOf shelf kind X bytes) → HasChecked (report_of shelf kind X) (mid.left Report) mid new r
    → Judged shelf kind X report old new r
judged shelf kind X report old mid new (Ok judgement.Yes) a l shown h = record {
  counted = tt;
  right = of_file old.files report (mid.left Report) _ a (weaker (mid.left Report) (Holds (report_of shelf kind X)) _ (λ bytes k. (k, shown bytes k)) h.answer);
  taken = of_file old.files report (mid.left Report) _ a h.taken;
}
judged shelf kind X report old mid new (Ok (judgement.No k)) a l shown h = record {
  counted = h.answer.0;
  right = of_file old.files report (mid.left Report) _ a h.answer.1;
  taken = of_file old.files report (mid.left Report) _ a h.taken;
}
judged shelf kind X report old mid new (Err check.ReadFault) a l shown h = inl (rose_earlier old.read_faults mid.read_faults new.read_faults l h.answer)
judged shelf kind X report old mid new (Err check.NoMemory) a l shown h = tt
