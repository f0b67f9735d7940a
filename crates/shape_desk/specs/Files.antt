-- Files and words, as a run of a program meets them.
-- Clauses on the bytes of files hold where the desk tells its files.
use Rattle.std.specs.Prelude.{◌≡◌, ℕ, ◌≤◌, ⊤, List, Option, None, Some, MatchOption, map}
use Rattle.std.specs.declared.vec.Vec.{Vec}
use Rattle.shape_desk.specs.Desk.{Files, DeskState}

-- the bytes of the words of a command line
abbrev pub texts : {Z : Type 0} → List (Vec ℕ Z) → List (List ℕ)
texts words = map (λ w. w.items) words

-- where the desk tells its files, there is one with the name, and its bytes are so
abbrev pub OfFile : Option Files → List ℕ → (List ℕ → Type 0) → Type 0
OfFile None name P = ⊤
OfFile (Some files) name P = MatchOption (files name) ⊥ P

-- nothing was written
abbrev pub IsSilent : DeskState → DeskState → Type 0
IsSilent old new = new.written ≡ old.written

-- no file changed, and no count fell
pub record KeepsFiles (old new : DeskState) : Type 0 where
  pub files : new.files ≡ old.files
  pub read_later : old.read_faults ≤ new.read_faults
  pub write_later : old.write_faults ≤ new.write_faults
