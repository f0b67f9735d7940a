-- What the parts of a run answer: the picture that is read, and the verdict on the report.
-- These words are the program's own; its callers need `Runs` alone.
use Rattle.std.specs.Prelude.{◌⊎◌, ℕ, List, ⊤, Result, Ok, Err}
use Rattle.shape_terms.specs.Pictures.{Picture}
use Rattle.shape_terms.specs.Thinning.{Rule}
use Rattle.shape_terms.specs.Shelves.{Named}
use Rattle.text_terms.specs.Reports.{FirstBad}
use Rattle.text_terms.specs.Going.{TakesFew}
use Rattle.shape_desk.specs.Desk.{DeskState, Rose, IsMissing}
use Rattle.shape_desk.specs.declared.desk.Place.TheVariants.{Report}
use Rattle.shape_picture.specs.Answers.{Format}
use Rattle.shape_picture.specs.declared.fault.PictureError.{PictureError}
use Rattle.shape_picture.specs.declared.fault.PictureError.TheVariants as error
use Rattle.report_text.specs.Checks.{IsLineNumber}
use Rattle.report_text.specs.declared.answer.Judgement.{Judgement}
use Rattle.report_text.specs.declared.answer.Judgement.TheVariants as judgement
use Rattle.report_text.specs.declared.answer.CheckFault.{CheckFault}
use Rattle.report_text.specs.declared.answer.CheckFault.TheVariants as check
use Rattle.shape_analyse.specs.Finding.{Found}
use Rattle.shape_cli.specs.declared.analysis.Analysis.{Analysis}
use Rattle.shape_cli.specs.declared.analysis.Analysis.TheVariants as analysis
use Rattle.shape_cli.specs.declared.picture.Image.{Image}
use Rattle.shape_cli.specs.declared.picture.Image.TheVariants as image
use Rattle.shape_cli.specs.Sources.{Kind}
use Rattle.shape_cli.specs.Abouts.{About, IsAbout}
use Rattle.shape_cli.specs.Kinds.{ReportKind, about_of, report_of}
use Rattle.shape_desk.specs.Files.{OfFile}
use Rattle.shape_cli.specs.Runs.{IsRightReport, yes_text, no_text}

-- the picture that was read, flat or solid
abbrev pub picture_of : Image → Picture
picture_of (image.Flat X) = X
picture_of (image.Solid X) = X

-- what was found of it, flat or solid
abbrev pub findings_of : Analysis → Found
findings_of (analysis.Flat f) = f
findings_of (analysis.Solid f) = f

-- an answer of the reading, with the picture that its image is
abbrev pub seen : Result Image PictureError → Result Picture PictureError
seen (Ok v) = Ok (picture_of v)
seen (Err e) = Err e

-- the kind of the picture that was read
abbrev pub image_kind : Image → Kind
image_kind (image.Flat X) = Kind.Flat
image_kind (image.Solid X) = Kind.Solid

-- the picture that was read is one of these
abbrev pub IsFit : About → Image → Type 0
IsFit about image = IsAbout about (image_kind image)

-- what is asked of a picture of which a report of the kind is made or checked
abbrev pub Suits : ReportKind → Image → Type 0
Suits kind image = IsFit (about_of kind) image

-- what the reading of a file in a format gives: its picture, its fault, or the cause of the failure
abbrev pub Opened : Format → List ℕ → DeskState → DeskState → Result Picture PictureError → Type 0
Opened F file old new (Ok X) = OfFile old.files file (F.spells X)
Opened F file old new (Err (error.Bad f)) = OfFile old.files file (F.has_fault f)
Opened F file old new (Err error.ReadFault) = Rose old.read_faults new.read_faults ⊎ IsMissing old.files file
Opened F file old new (Err error.NoMemory) = ⊤

-- the verdict line
abbrev pub verdict_text : Judgement → List ℕ
verdict_text judgement.Yes = yes_text
verdict_text (judgement.No k) = no_text k

-- yes: the bytes are a report of the kind, of the picture; no: the line is the first bad one
abbrev pub IsRight : List (Named Rule) → ReportKind → Picture → Judgement → List ℕ → Type 0
IsRight shelf kind X judgement.Yes bytes = IsRightReport shelf kind X bytes
IsRight shelf kind X (judgement.No k) bytes = FirstBad (report_of shelf kind X) bytes k

-- the number of a line is one that the program can count to
abbrev pub IsCounted : Judgement → Type 0
IsCounted judgement.Yes = ⊤
IsCounted (judgement.No k) = IsLineNumber k

-- the verdict on the report in a file
pub record HasVerdict (shelf : List (Named Rule)) (kind : ReportKind) (X : Picture) (report : List ℕ) (old new : DeskState) (v : Judgement) : Type 0 where
  pub counted : IsCounted v
  pub right : OfFile old.files report (IsRight shelf kind X v)
  pub taken : OfFile old.files report (λ bytes. TakesFew (report_of shelf kind X) bytes (new.left Report))

-- what the judging of a report's file gives
abbrev pub Judged : List (Named Rule) → ReportKind → Picture → List ℕ → DeskState → DeskState → Result Judgement CheckFault → Type 0
Judged shelf kind X report old new (Ok v) = HasVerdict shelf kind X report old new v
Judged shelf kind X report old new (Err check.ReadFault) = Rose old.read_faults new.read_faults ⊎ IsMissing old.files report
Judged shelf kind X report old new (Err check.NoMemory) = ⊤
