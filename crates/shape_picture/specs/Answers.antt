-- What a reader of pictures answers, and what it leaves of the desk: all that its callers have to read beside its format.
-- The words of the readers' parts stand in `Bytes`, `Header`, `Raster` and `Parts`.
use Rattle.std.specs.Prelude.{ℕ, ◌+◌, ◌≤◌, List, length, Option, Result, Ok, Err, ⊤}
use Rattle.shape_terms.specs.Points.{box_count}
use Rattle.shape_terms.specs.Pictures.{Picture}
use Rattle.shape_desk.specs.Desk.{Rose, Takes}
use Rattle.shape_desk.specs.Line.{IfTold}
use Rattle.shape_picture.specs.declared.fault.PictureFault.{PictureFault}
use Rattle.shape_picture.specs.declared.fault.PictureError.{PictureError}
use Rattle.shape_picture.specs.declared.fault.PictureError.TheVariants as error
use Rattle.shape_picture.specs.Pbm.{Pbm, PbmFault}
use Rattle.shape_picture.specs.Raw.{Raw, RawFault}

-- ---- formats

-- a format of pictures: which picture the bytes of a file spell, which fault they have, and how many of them are taken at most
pub record Format : Type 1 where
  pub spells : Picture → List ℕ → Type 0
  pub has_fault : PictureFault → List ℕ → Type 0
  pub most : ℕ

-- the bytes spell some picture
abbrev pub SpellsSome : Format → List ℕ → Type 0
SpellsSome F bytes = (X : Picture) × F.spells X bytes

-- the bytes have some fault
abbrev pub HasFault : Format → List ℕ → Type 0
HasFault F bytes = (f : PictureFault) × F.has_fault f bytes

-- some front of the bytes spells the picture
abbrev pub SpellsPicture : ℕ → ℕ → Picture → List ℕ → Type 0
SpellsPicture limit longest X bytes = (m : ℕ) × Pbm limit longest bytes X m

-- PBM with sides up to a limit, and with no more bytes than the longest has, up to and with its last pixel or the last byte of its last row
abbrev pub pbm : ℕ → ℕ → Format
pbm limit longest = record { spells = SpellsPicture limit longest; has_fault = λ f bytes. PbmFault limit longest bytes f; most = longest }

-- raw volumes of these sides: at most one byte is taken behind the last point's
abbrev pub raw : List ℕ → Format
raw sides = record { spells = λ X bytes. Raw sides bytes X; has_fault = λ f bytes. RawFault sides bytes f; most = box_count sides + 1 }

-- ---- the desk

-- at most so many bytes were taken from those left, also those that were read ahead
pub record TakesAtMost (longest : ℕ) (old new : Option (List ℕ)) : Type 0 where
  pub taken : List ℕ
  pub few : length taken ≤ longest
  pub takes : Takes old new taken

-- ---- the answers
-- `all` are the bytes left at the picture's place before the call and `left` those after it, where the desk tells them;
-- `before` and `now` are its numbers of faults of reading.

-- a picture that the bytes spell
pub record PictureRead (F : Format) (all left : Option (List ℕ)) (X : Picture) : Type 0 where
  pub spells : IfTold all (F.spells X)
  pub within : TakesAtMost F.most all left

-- when each error comes: a fault where the bytes have it, and a read that failed where a count of failed reads rose;
-- want of memory may come at any time
abbrev pub ErrorComes : Format → Option (List ℕ) → ℕ → ℕ → PictureError → Type 0
ErrorComes F all before now (error.Bad f) = IfTold all (F.has_fault f)
ErrorComes F all before now error.ReadFault = Rose before now
ErrorComes F all before now error.NoMemory = ⊤

-- an error that has its cause
pub record ReadStopped (F : Format) (all left : Option (List ℕ)) (before now : ℕ) (e : PictureError) : Type 0 where
  pub comes : ErrorComes F all before now e
  pub within : TakesAtMost F.most all left

-- the picture that the bytes spell, or the error
abbrev pub PictureAnswer : Format → Option (List ℕ) → Option (List ℕ) → ℕ → ℕ → Result Picture PictureError → Type 0
PictureAnswer F all left before now (Ok X) = PictureRead F all left X
PictureAnswer F all left before now (Err e) = ReadStopped F all left before now e
