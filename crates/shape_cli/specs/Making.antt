-- What the making of a report wrote, up to the outcome of the run.
-- These words are the program's own; its callers need `Runs` alone.
use Rattle.std.specs.Prelude.{◌≡◌, ℕ, List, Result, Ok, Err}
use Rattle.shape_desk.specs.Desk.{DeskState, Rose, Puts, PutsFront, OnlyWrites}
use Rattle.shape_cli.specs.declared.making.MakeFault.{MakeFault}
use Rattle.shape_cli.specs.declared.making.MakeFault.TheVariants as fault

-- a text of which this is so was written whole
pub record WroteWhole (IsSo : List ℕ → Type 0) (old new : DeskState) : Type 0 where
  pub text : List ℕ
  pub so : IsSo text
  pub puts : Puts old.written new.written text
  pub only : OnlyWrites old new

-- a front of it was written, and a write failed
pub record WroteFront (IsSo : List ℕ → Type 0) (old new : DeskState) : Type 0 where
  pub text : List ℕ
  pub so : IsSo text
  pub puts : PutsFront old.written new.written text
  pub cause : Rose old.write_faults new.write_faults
  pub only : OnlyWrites old new

-- what was written; where memory was wanting, the desk is as it was
abbrev pub Wrote : (List ℕ → Type 0) → DeskState → DeskState → Result (Unit {0}) MakeFault → Type 0
Wrote IsSo old new (Ok u) = WroteWhole IsSo old new
Wrote IsSo old new (Err fault.WriteFault) = WroteFront IsSo old new
Wrote IsSo old new (Err fault.NoMemory) = new ≡ old
