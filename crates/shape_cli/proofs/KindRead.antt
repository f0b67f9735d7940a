-- What is so of a kind of report is so of the kind that the program reads as it.
-- These laws are of every kind, and name none.
use Rattle.std.proofs.Common.{◌≡◌, List, ℕ, sym, subst}
use Rattle.std.specs.Prelude.{Option, Result}
use Rattle.shape_terms.specs.Pictures.{Picture}
use Rattle.shape_terms.specs.Thinning.{Rule}
use Rattle.shape_terms.specs.Shelves.{Named}
use Rattle.text_terms.specs.Reports.{Holds}
use Rattle.shape_desk.specs.Desk.{DeskState}
use Rattle.report_text.specs.Checks.{HasChecked, Answer}
use Rattle.shape_cli.specs.declared.making.MakeFault.{MakeFault}
use Rattle.shape_cli.specs.Making.{Wrote}
use Rattle.shape_cli.proofs.Wrote.{wrote_as}
use Rattle.shape_cli.specs.Further.{FurtherKind, row_of}
use Rattle.shape_cli.specs.Kinds.{ReportKind, Wanted, report_of, ShowsOf, Makes, read_report_kind, read_wanted}
use Rattle.shape_cli.specs.declared.kind.ReportKind.{ReportKind as ProgramReportKind}
use Rattle.shape_cli.specs.declared.kind.Wanted.{Wanted as ProgramWanted}

module _ (k : ProgramReportKind) (kind : ReportKind) (is : read_report_kind k ≡ kind) where
  pub checked_as : (shelf : List (Named Rule)) (X : Picture) (text : Option (List ℕ)) (old new : DeskState) (r : Answer)
      → HasChecked (report_of shelf kind X) text old new r → HasChecked (report_of shelf (read_report_kind k) X) text old new r
  checked_as shelf X text old new r h = subst (λ j. HasChecked (report_of shelf j X) text old new r) (sym is) h

  pub shown_as : ((shelf : List (Named Rule)) (X : Picture) (text : List ℕ) → Holds (report_of shelf kind X) text → ShowsOf shelf kind X text)
      → (shelf : List (Named Rule)) (X : Picture) (text : List ℕ) → Holds (report_of shelf (read_report_kind k) X) text
      → ShowsOf shelf (read_report_kind k) X text
  shown_as h = subst (λ j. (shelf : List (Named Rule)) (X : Picture) (text : List ℕ) → Holds (report_of shelf j X) text → ShowsOf shelf j X text) (sym is) h

-- what was written of a further kind is what is wanted
pub made_as : (w : ProgramWanted) (kind : FurtherKind) (shelf : List (Named Rule)) (X : Picture) (old new : DeskState) (r : Result (Unit {0}) MakeFault)
    → read_wanted w ≡ Wanted.Further kind → Wrote ((row_of kind).Makes X) old new r → Wrote (Makes shelf (read_wanted w) X) old new r
made_as w kind shelf X old new r is h = subst (λ v. Wrote (Makes shelf v X) old new r) (sym is) (wrote_as old new r ((row_of kind).makes X) h)
