-- What the parts of the reader say of the bytes taken so far.
-- `all` are the bytes left before the first of them, `left` those on the desk now and `ahead` those read ahead.
use Rattle.std.specs.Prelude.{◌≡◌, ℕ, ◌+◌, ◌≤◌, List, [], ◌∷◌, ◌++◌, length, Option, None, Some, Result, Ok, Err, map, replicate, ◌-◌, false}
use Rattle.shape_terms.specs.Pictures.{Picture}
use Rattle.shape_desk.specs.Desk.{Rose, Takes, IsEnd}
use Rattle.shape_desk.specs.Line.{ahead_of}
use Rattle.shape_picture.specs.declared.pbm.Heading.{Heading}
use Rattle.shape_picture.specs.declared.header.Coming.TheVariants as coming
use Rattle.shape_picture.specs.declared.fault.PictureError.{PictureError}
use Rattle.shape_picture.specs.Answers.{pbm, raw, ReadStopped}
use Rattle.shape_picture.specs.Header.{IsInGap}
use Rattle.shape_picture.specs.Raw.{is_object}
use Rattle.shape_terms.specs.Points.{box_count}

-- the first `at` of all bytes were taken, and some that follow were read ahead
pub record BytesTaken (longest at : ℕ) (all left : Option (List ℕ)) (ahead front : List ℕ) : Type 0 where
  pub many : length front ≡ at
  pub takes : Takes all (ahead_of ahead left) front
  pub room : at + length ahead ≤ longest

-- one byte more was taken; or there is none, or the read failed, and nothing was taken
abbrev pub NextTaken : {E : Type 0} → ℕ → ℕ → Option (List ℕ) → Option (List ℕ) → List ℕ → List ℕ → ℕ → ℕ → Result (Option ℕ) E → Type 0
NextTaken longest at all left ahead front before now (Ok (Some c)) = BytesTaken longest (at + 1) all left ahead (front ++ c ∷ [])
NextTaken longest at all left ahead front before now (Ok None) = BytesTaken longest at all left ahead front × IsEnd (ahead_of ahead left)
NextTaken longest at all left ahead front before now (Err e) = BytesTaken longest at all left ahead front × Rose before now

-- one byte more was taken, or the reading stopped
abbrev pub NextByteAnswer : ℕ → ℕ → ℕ → Option (List ℕ) → Option (List ℕ) → List ℕ → List ℕ → ℕ → ℕ → Result ℕ PictureError → Type 0
NextByteAnswer limit longest at all left ahead front before now (Ok c) = BytesTaken longest (at + 1) all left ahead (front ++ c ∷ [])
NextByteAnswer limit longest at all left ahead front before now (Err e) = ReadStopped (pbm limit longest) all left before now e

-- the first `at` of all bytes were taken, and P holds of them
pub record FrontTaken (P : List ℕ → Type 0) (longest at : ℕ) (all left : Option (List ℕ)) (ahead : List ℕ) : Type 0 where
  pub front : List ℕ
  pub known : P front
  pub taken : BytesTaken longest at all left ahead front

-- the whole header was read, by the form `P1` up to the first piece of the gap that ends it, or the reading stopped
abbrev pub HeaderAnswer : ℕ → ℕ → Option (List ℕ) → Option (List ℕ) → List ℕ → ℕ → ℕ → Result Heading PictureError → Type 0
HeaderAnswer limit longest all left ahead before now (Ok h) = FrontTaken (IsInGap h.form limit (coming.Raster h.width h.height)) longest h.at all left ahead
HeaderAnswer limit longest all left ahead before now (Err e) = ReadStopped (pbm limit longest) all left before now e

-- the values of the first points of a volume so far; the other values are still background
pub record VolumeSoFar (sides : List ℕ) (at : ℕ) (X : Picture) (all left : Option (List ℕ)) (ahead : List ℕ) : Type 0 where
  pub front : List ℕ
  pub same_sides : X.sides ≡ sides
  pub values : X.values ≡ map is_object front ++ replicate (box_count sides - at) false
  pub taken : BytesTaken (box_count sides + 1) at all left ahead front

-- the values of all points were read, or the reading stopped
abbrev pub VolumeAnswer : List ℕ → Option (List ℕ) → Option (List ℕ) → List ℕ → ℕ → ℕ → Result Picture PictureError → Type 0
VolumeAnswer sides all left ahead before now (Ok X) = VolumeSoFar sides (box_count sides) X all left ahead
VolumeAnswer sides all left ahead before now (Err e) = ReadStopped (raw sides) all left before now e
