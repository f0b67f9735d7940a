-- What a run of a command has done to the desk, outcome by outcome.
-- Clauses on the bytes of files hold where the desk tells its files; a further kind of report changes nothing here.
use Rattle.std.specs.Prelude.{◌≡◌, ◌⊎◌, ℕ, List, ◌++◌, codes, ⊤, Option}
use Rattle.std.specs.Fmt.{decimal}
use Rattle.shape_terms.specs.Pictures.{Picture}
use Rattle.shape_terms.specs.Thinning.{Rule}
use Rattle.shape_terms.specs.Shelves.{Named}
use Rattle.text_terms.specs.Reports.{Holds, FirstBad}
use Rattle.text_terms.specs.Going.{TakesFew}
use Rattle.shape_desk.specs.Desk.{Files, DeskState, Rose, IsMissing, Puts, PutsFront}
use Rattle.shape_desk.specs.Files.{OfFile, IsSilent}
use Rattle.shape_desk.specs.declared.desk.Place.{Place}
use Rattle.shape_desk.specs.declared.desk.Place.TheVariants.{Report}
use Rattle.shape_picture.specs.declared.fault.PictureFault.{PictureFault}
use Rattle.shape_cli.specs.Sources.{Source, file_of, format_of}
use Rattle.shape_cli.specs.Kinds.{ReportKind, report_of, ShowsOf, Makes}
use Rattle.shape_cli.specs.Commands.{Asked, OfSource}
use Rattle.shape_cli.specs.Trials.{IsTrialLine}
use Rattle.shape_cli.specs.declared.outcome.Outcome.{Outcome}
use Rattle.shape_cli.specs.declared.outcome.Outcome.TheVariants as outcome

-- ---- files

-- the bytes of a source's file spell the picture
abbrev pub Spells : Source → Picture → List ℕ → Type 0
Spells source X bytes = (format_of source).spells X bytes

-- the bytes of a source's file have the fault
abbrev pub HasFault : Source → PictureFault → List ℕ → Type 0
HasFault source f bytes = (format_of source).has_fault f bytes

-- the source is this picture
abbrev pub IsPictureOf : Option Files → Source → Picture → Type 0
IsPictureOf files source X = OfFile files (file_of source) (Spells source X)

-- the source has this fault
abbrev pub IsFaultOf : Option Files → Source → PictureFault → Type 0
IsFaultOf files source f = OfFile files (file_of source) (HasFault source f)

-- ---- answers

-- the verdict lines
abbrev pub yes_text : List ℕ
yes_text = codes "yes\n"

abbrev pub no_text : ℕ → List ℕ
no_text k = codes "no " ++ decimal k ++ codes "\n"

-- the source is a picture of which this holds
abbrev pub OfPicture : Option Files → Source → (Picture → Type 0) → Type 0
OfPicture files source P = (X : Picture) × IsPictureOf files source X × P X

-- the report of the kind holds of the picture, and shows what it says
abbrev pub IsRightReport : List (Named Rule) → ReportKind → Picture → List ℕ → Type 0
IsRightReport shelf kind X bytes = Holds (report_of shelf kind X) bytes × ShowsOf shelf kind X bytes

-- the answer of a command, where these rules are on the shelf: this text, with this outcome, is right; no other outcome has one
abbrev pub Answers : List (Named Rule) → Asked → Option Files → Outcome → List ℕ → Type 0
Answers shelf (Asked.Make source wanted) files outcome.Done text = OfPicture files source (λ X. Makes shelf wanted X text)
Answers shelf (Asked.Check source kind report) files outcome.Yes text = (text ≡ yes_text)
    × OfPicture files source (λ X. OfFile files report (IsRightReport shelf kind X))
Answers shelf (Asked.Check source kind report) files (outcome.No k) text = (text ≡ no_text k)
    × OfPicture files source (λ X. OfFile files report (λ bytes. FirstBad (report_of shelf kind X) bytes k))
Answers shelf (Asked.Trial kind seed side) files outcome.Done text = IsTrialLine shelf kind seed side text
Answers shelf _ files _ text = ⊥

-- a file that the command reads is missing; that of the report is read where there is a picture
abbrev pub Lacks : Asked → Option Files → Type 0
Lacks (Asked.Make source wanted) files = IsMissing files (file_of source)
Lacks (Asked.Check source kind report) files = IsMissing files (file_of source) ⊎ (IsMissing files report × OfPicture files source (λ X. ⊤))
Lacks (Asked.Trial kind seed side) files = ⊥

-- the command reads files
abbrev pub ReadsFiles : Asked → Type 0
ReadsFiles c = OfSource c (λ source. ⊤)

-- ---- runs

-- of a report, good lines for the picture and at most 2048 bytes more were taken, and the rest is left at its place; a trial took nothing
abbrev pub TookFew : List (Named Rule) → Asked → DeskState → DeskState → Type 0
TookFew shelf (Asked.Make source wanted) old new = ⊤
TookFew shelf (Asked.Check source kind report) old new =
    OfPicture old.files source (λ X. OfFile old.files report (λ bytes. TakesFew (report_of shelf kind X) bytes (new.left Report)))
TookFew shelf (Asked.Trial kind seed side) old new = (p : Place) → new.left p ≡ old.left p

-- the whole answer was written
pub record Answered (shelf : List (Named Rule)) (c : Asked) (old new : DeskState) (o : Outcome) : Type 0 where
  pub text : List ℕ
  pub right : Answers shelf c old.files o text
  pub puts : Puts old.written new.written text
  pub taken : TookFew shelf c old new

-- a write failed, and a front of a right answer was written
pub record CutShort (shelf : List (Named Rule)) (c : Asked) (old new : DeskState) : Type 0 where
  pub outcome : Outcome
  pub text : List ℕ
  pub right : Answers shelf c old.files outcome text
  pub puts : PutsFront old.written new.written text
  pub cause : Rose old.write_faults new.write_faults
  pub taken : TookFew shelf c old new

-- what a run of the command did, outcome by outcome, where these rules are on the shelf
abbrev pub Ran : List (Named Rule) → Asked → DeskState → DeskState → Outcome → Type 0
Ran shelf c old new outcome.Usage = ⊥
Ran shelf c old new (outcome.Picture f) = OfSource c (λ source. IsFaultOf old.files source f) × IsSilent old new
Ran shelf c old new outcome.ReadFault = ReadsFiles c × (Rose old.read_faults new.read_faults ⊎ Lacks c old.files) × IsSilent old new
Ran shelf c old new outcome.NoMemory = IsSilent old new
Ran shelf c old new outcome.WriteFault = CutShort shelf c old new
Ran shelf c old new outcome.Done = Answered shelf c old new outcome.Done
Ran shelf c old new outcome.Yes = Answered shelf c old new outcome.Yes
Ran shelf c old new (outcome.No k) = Answered shelf c old new (outcome.No k)
