-- What has to be there for an answer of a command, and which outcomes are answers.
-- These are the premises and the ends of the laws of runs; no call needs them.
use Rattle.std.specs.Prelude.{◌≡◌, ◌⊎◌, ◌↔◌, List, ⊤, Option, None, Some, MatchOption, ℕ}
use Rattle.shape_terms.specs.Pictures.{Picture}
use Rattle.shape_terms.specs.Thinning.{Rule}
use Rattle.shape_terms.specs.Shelves.{Named, names_of}
use Rattle.shape_desk.specs.Desk.{Files, DeskState, Rose}
use Rattle.shape_picture.specs.declared.fault.PictureFault.{PictureFault}
use Rattle.shape_cli.specs.Sources.{Source, file_of}
use Rattle.shape_cli.specs.Commands.{Asked, IsNoForm, Asks}
use Rattle.shape_desk.specs.Files.{KeepsFiles}
use Rattle.shape_cli.specs.Runs.{Spells, HasFault, Ran}
use Rattle.shape_cli.specs.declared.outcome.Outcome.{Outcome}
use Rattle.shape_cli.specs.declared.outcome.Outcome.TheVariants as outcome

-- the desk tells its files, there is one with the name, and its bytes are so
abbrev pub FileIs : Option Files → List ℕ → (List ℕ → Type 0) → Type 0
FileIs None name P = ⊥
FileIs (Some files) name P = MatchOption (files name) ⊥ P

-- the source is there, and it is the picture
abbrev pub FindsPicture : Option Files → Source → Picture → Type 0
FindsPicture files source X = FileIs files (file_of source) (Spells source X)

-- the source is there, and it is some picture
abbrev pub FindsSome : Option Files → Source → Type 0
FindsSome files source = FileIs files (file_of source) (λ bytes. (X : Picture) × Spells source X bytes)

-- the source is there, and has this fault
abbrev pub FindsFault : Option Files → Source → PictureFault → Type 0
FindsFault files source f = FileIs files (file_of source) (HasFault source f)

-- the files beside the source's that the command reads are there
abbrev pub FindsRest : Asked → Option Files → Type 0
FindsRest (Asked.Make source wanted) files = ⊤
FindsRest (Asked.Check source kind report) files = FileIs files report (λ _. ⊤)
FindsRest (Asked.Trial kind seed side) files = ⊤

-- no count rose
pub record HasNoFault (old new : DeskState) : Type 0 where
  pub read : Rose old.read_faults new.read_faults → ⊥
  pub write : Rose old.write_faults new.write_faults → ⊥

-- the outcome is one of the command's answers
abbrev pub IsAnswer : Asked → Outcome → Type 0
IsAnswer (Asked.Make source wanted) outcome.Done = ⊤
IsAnswer (Asked.Check source kind report) outcome.Yes = ⊤
IsAnswer (Asked.Check source kind report) (outcome.No k) = ⊤
IsAnswer (Asked.Trial kind seed side) outcome.Done = ⊤
IsAnswer _ _ = ⊥

-- what `run` ensures, over the rules on the shelf, the words, the desk before and now, and the outcome
pub record HasRun (shelf : List (Named Rule)) (words : List (List ℕ)) (old new : DeskState) (o : Outcome) : Type 0 where
  pub usage : (o ≡ outcome.Usage) ↔ IsNoForm (names_of shelf) words
  pub untouched : o ≡ outcome.Usage → new ≡ old
  pub ran : Asks (names_of shelf) words (λ c. Ran shelf c old new o) ⊎ IsNoForm (names_of shelf) words
  pub kept : KeepsFiles old new
