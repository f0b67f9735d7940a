-- What is told of the bytes left at a place, told of the file that was begun there.
-- Laws over plain values, for every program that reads files.
use Rattle.std.proofs.Common.{ℕ, ◌≤◌, sym, arith, List, Option, None, Some}
use Rattle.shape_desk.specs.Desk.{Files, IsAtFront, Rose}
use Rattle.shape_desk.specs.Line.{IfTold}
use Rattle.shape_desk.specs.Files.{OfFile}

-- a fact of the bytes that are left at the front of a file is one of the file
pub of_file : (files : Option Files) (name : List ℕ) (left : Option (List ℕ)) (P : List ℕ → Type 0) → IsAtFront files name left → IfTold left P
    → OfFile files name P
of_file None name left P a h = tt
of_file (Some files) name None P a h = absurd (let z = a.1 in cc)
of_file (Some files) name (Some bytes) P a h = rw (sym a.0) h

-- a count that rose from between rose from before
pub rose_earlier : (before middle now : ℕ) → before ≤ middle → Rose middle now → Rose before now
rose_earlier before middle now l h = omega (arith, l, h)
