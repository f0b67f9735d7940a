-- What has to be there for an answer of a run, and which texts are reports at all.
-- These are the premises and the ends of the laws of runs; no call needs them.
use Rattle.std.specs.Prelude.{ℕ, List, Option, None, Some, MatchOption}
use Rattle.shape_desk.specs.Desk.{Files, DeskState, Rose, Puts}
use Rattle.report_terms.specs.Lines.{Line}
use Rattle.report_lines.specs.Reports.{Space, IsReport}
use Rattle.report_lines.specs.Made.{Maker, IsSpace}

-- the text is a report of a flat picture or of a volume, as far as its lines come in order
pub record IsSomeReport (text : List ℕ) : Type 0 where
  pub space : Space
  pub known : IsSpace space
  pub lines : List Line
  pub report : IsReport space text lines

-- the desk tells its files, there is one with the name, and its bytes are so
abbrev pub FileIs : Option Files → List ℕ → (List ℕ → Type 0) → Type 0
FileIs None name P = ⊥
FileIs (Some files) name P = MatchOption (files name) ⊥ P

-- no count of faults rose
pub record HasNoFault (old new : DeskState) : Type 0 where
  pub read : Rose old.read_faults new.read_faults → ⊥
  pub write : Rose old.write_faults new.write_faults → ⊥

-- bytes were written that are made of these lines about a picture of the space
pub record WritesOf (make : Maker) (s : Space) (lines : List Line) (old new : DeskState) : Type 0 where
  pub bytes : List ℕ
  pub made : make s.axes lines bytes
  pub puts : Puts old.written new.written bytes
