-- What a run did that makes bytes of the report in a file, outcome by outcome.
-- What is made is handed in; every program that makes something of a report has these outcomes.
use Rattle.std.specs.Prelude.{◌⊎◌, ℕ, ⊤, List, Result, Ok, Err}
use Rattle.shape_desk.specs.Desk.{DeskState, Rose, IsMissing, Puts, PutsFront}
use Rattle.report_lines.specs.declared.fault.ReportFault.{ReportFault}
use Rattle.report_lines.specs.declared.fault.ReportFault.TheVariants.{NotReport, ReadFault, NoMemory}
use Rattle.shape_desk.specs.Files.{OfFile, IsSilent}
use Rattle.report_lines.specs.Made.{Maker, about, flat_alone, up_to, of_volume, beyond, IsMadeOf, IsSolidReport, IsNoReport}
use Rattle.report_lines.specs.declared.outcome.Outcome.{Outcome}
use Rattle.report_lines.specs.declared.outcome.Outcome.TheVariants as outcome

-- why nothing is made of the report in a file
abbrev pub FileRefused : List ℕ → DeskState → DeskState → ReportFault → Type 0
FileRefused name old new (NotReport k) = OfFile old.files name (λ text. IsNoReport text k)
FileRefused name old new ReadFault = Rose old.read_faults new.read_faults ⊎ IsMissing old.files name
FileRefused name old new NoMemory = ⊤

-- what making bytes of the report in a file answers
abbrev pub FileMade : {V : Type 0} → (V → Maker) → (V → List ℕ) → List ℕ → DeskState → DeskState → Result V ReportFault → Type 0
FileMade make bytes name old new (Ok v) = OfFile old.files name (λ text. IsMadeOf (make v) text (bytes v))
FileMade make bytes name old new (Err fault) = FileRefused name old new fault

-- what is made of the report in the file was written
pub record WritesMade (make : Maker) (name : List ℕ) (old new : DeskState) : Type 0 where
  pub bytes : List ℕ
  pub made : OfFile old.files name (λ text. IsMadeOf make text bytes)
  pub puts : Puts old.written new.written bytes

-- a write failed, and a front of what is made was written
pub record CutsShort (make : Maker) (name : List ℕ) (old new : DeskState) : Type 0 where
  pub bytes : List ℕ
  pub made : OfFile old.files name (λ text. IsMadeOf make text bytes)
  pub puts : PutsFront old.written new.written bytes
  pub cause : Rose old.write_faults new.write_faults

-- what a run did for the file with this name, outcome by outcome; it has no second file
abbrev pub Ran : Maker → List ℕ → DeskState → DeskState → Outcome → Type 0
Ran make name old new outcome.Done = WritesMade make name old new
Ran make name old new outcome.Usage = ⊥
Ran make name old new (outcome.NotReport k) = OfFile old.files name (λ text. IsNoReport text k) × IsSilent old new
Ran make name old new (outcome.NotOver k) = ⊥
Ran make name old new outcome.TooLarge = ⊥
Ran make name old new outcome.NotSolid = ⊥
Ran make name old new outcome.NotFlat = ⊥
Ran make name old new outcome.ReadFault = (Rose old.read_faults new.read_faults ⊎ IsMissing old.files name) × IsSilent old new
Ran make name old new outcome.WriteFault = CutsShort make name old new
Ran make name old new outcome.NoMemory = IsSilent old new

-- the report in the file is that of a flat picture, and more bytes than so many are made of it
pub record IsTooLarge (most : ℕ) (make : Maker) (name : List ℕ) (old : DeskState) : Type 0 where
  pub bytes : List ℕ
  pub made : OfFile old.files name (λ text. IsMadeOf (beyond most make) text bytes)

-- the same of a run that writes what is made of a flat picture where it has so many bytes at most, and else nothing
abbrev pub RanUpTo : ℕ → Maker → List ℕ → DeskState → DeskState → Outcome → Type 0
RanUpTo most make name old new outcome.TooLarge = IsTooLarge most make name old × IsSilent old new
RanUpTo most make name old new o = Ran (up_to most make) name old new o

-- the report in the file is that of a flat picture
pub record IsFlatReport (make : Maker) (name : List ℕ) (old : DeskState) : Type 0 where
  pub bytes : List ℕ
  pub made : OfFile old.files name (λ text. IsMadeOf (about 2 make) text bytes)

-- the same of a run that writes what is made of a volume, and nothing of a flat picture
abbrev pub RanSolid : Maker → List ℕ → DeskState → DeskState → Outcome → Type 0
RanSolid make name old new outcome.NotSolid = IsFlatReport make name old × IsSilent old new
RanSolid make name old new o = Ran (of_volume make) name old new o

-- the same of a run that makes something of flat pictures alone: of the report of a volume nothing is made, and this is told
abbrev pub RanFlat : ℕ → Maker → List ℕ → DeskState → DeskState → Outcome → Type 0
RanFlat most make name old new outcome.NotFlat = OfFile old.files name IsSolidReport × IsSilent old new
RanFlat most make name old new o = RanUpTo most (flat_alone make) name old new o
