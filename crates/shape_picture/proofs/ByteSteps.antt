-- Bytes taken one after another from a desk: where the reading stops, the error has its cause, or the picture is spelled.
-- Over any front of which the caller knows that no byte has spoilt it.
use Rattle.std.proofs.Common.{◌≡◌, ℕ, ◌+◌, ◌<◌, ◌≤◌, List, [], ◌∷◌, ◌++◌, length, take, Option, None, Some, Ok, Err, true, refl, sym, arith}
use Rattle.std.specs.Prelude.{slice_get}
use Rattle.std.proofs.lemmas.List.{append_assoc, append-nil, length-append, length_push, take_at}
use Rattle.shape_desk.specs.Desk.{Takes, IsEnd, Rose}
use Rattle.shape_desk.specs.Line.{IfTold, ahead_of}
use Rattle.shape_picture.specs.declared.fault.PictureFault.{PictureFault}
use Rattle.shape_picture.specs.declared.fault.PictureFault.TheVariants as fault
use Rattle.shape_picture.specs.declared.fault.PictureError.{PictureError}
use Rattle.shape_picture.specs.declared.fault.PictureError.TheVariants as error
use Rattle.shape_picture.specs.Pbm.{IsUnfinished, DecidesFault, PbmFault, Pbm, IsInRaster, HoldValues, holders, holds_pixels, number_value}
use Rattle.shape_picture.specs.Answers.{Format, pbm, TakesAtMost, ReadStopped, PictureRead, PictureAnswer, SpellsPicture}
use Rattle.std.specs.declared.result.Result.{Result}
use Rattle.shape_terms.specs.Points.{box_count}
use Rattle.shape_terms.specs.Pictures.{Picture}
use Rattle.shape_picture.specs.declared.header.Form.{Form}
use Rattle.shape_picture.specs.Parts.{BytesTaken}
use Rattle.shape_picture.proofs.Ahead.{taken_ahead}

-- what is taken and ahead is not more than so many bytes
pub taken_within : (longest at : ℕ) (all left : Option (List ℕ)) (ahead front : List ℕ) → BytesTaken longest at all left ahead front
    → TakesAtMost longest all left
taken_within longest at all left ahead front h = record {
  taken = front ++ ahead;
  few = omega (arith, length-append front ahead, h.many, h.room);
  takes = taken_ahead all left front ahead h.takes;
}

-- the byte behind a front
pub byte_at : (front rest : List ℕ) (c : ℕ) → slice_get (front ++ c ∷ rest) (length front) ≡ Some c
byte_at [] rest c = refl
byte_at (x ∷ front) rest c = byte_at front rest c

module _ (limit longest : ℕ) where
  -- the file ends too early
  pub short_fault : (all left : Option (List ℕ)) (front : List ℕ) (at : ℕ) → Takes all left front → IsEnd left → length front ≡ at → at < longest
      → IsUnfinished limit front → IfTold all (λ bytes. PbmFault limit longest bytes (fault.Short at))
  short_fault all None front at e z l m u = rw e tt
  short_fault all (Some xs) front at e z l m u = rw (e, z, append-nil front) (sym l, m, u)

  -- the greatest length is reached
  pub long_fault : (all left : Option (List ℕ)) (front : List ℕ) → Takes all left front → length front ≡ longest → IsUnfinished limit front
      → IfTold all (λ bytes. PbmFault limit longest bytes fault.TooLong)
  long_fault all None front e l u = rw e tt
  long_fault all (Some xs) front e l u =
      let t : take longest (front ++ xs) ≡ front = take_at front xs longest l in
      rw e (omega (arith, length-append front xs), rw t u)

  decided : (front rest : List ℕ) (c : ℕ) (f : PictureFault) → length front < longest → DecidesFault limit front c f
      → PbmFault limit longest (front ++ c ∷ rest) f
  decided front rest c (fault.Short i) l d = absurd d
  decided front rest c fault.TooLong l d = absurd d
  decided front rest c fault.Trailing l d = absurd d
  decided front rest c f l d = (length front, c, l, byte_at front rest c, rw (take_at front (c ∷ rest) (length front) refl) d)

  -- the byte just taken decides
  pub byte_fault : (all left : Option (List ℕ)) (front : List ℕ) (c : ℕ) (f : PictureFault) → Takes all left (front ++ c ∷ []) → length front < longest
      → DecidesFault limit front c f → IfTold all (λ bytes. PbmFault limit longest bytes f)
  byte_fault all None front c f e l d = rw e tt
  byte_fault all (Some xs) front c f e l d = rw (e, append_assoc front (c ∷ []) xs) (decided front xs c f l d)

-- a byte is wanted, and there is none, or the read failed
module _ (limit longest at : ℕ) (all left : Option (List ℕ)) (ahead front : List ℕ) (before now : ℕ) where
  pub ends_short : BytesTaken longest at all left ahead front × IsEnd (ahead_of ahead left) → IsUnfinished limit front → at < longest
      → ReadStopped (pbm limit longest) all left before now (error.Bad (fault.Short at))
  ends_short t u m = record {
    comes = short_fault limit longest all (ahead_of ahead left) front at t.0.takes t.1 t.0.many m u;
    within =
        taken_within longest at all left ahead front t.0;
  }

  pub ends_failed : BytesTaken longest at all left ahead front × Rose before now → ReadStopped (pbm limit longest) all left before now error.ReadFault
  ends_failed t = record { comes = t.1; within = taken_within longest at all left ahead front t.0 }

pub stops_bad : (limit longest at : ℕ) (all left : Option (List ℕ)) (ahead front : List ℕ) (c before now : ℕ) (f : PictureFault)
    → BytesTaken longest (at + 1) all left ahead (front ++ c ∷ []) → length front < longest → DecidesFault limit front c f
    → ReadStopped (pbm limit longest) all left before now (error.Bad f)
stops_bad limit longest at all left ahead front c before now f h l d = record {
  comes = byte_fault limit longest all (ahead_of ahead left) front c f h.takes l d;
  within = taken_within longest (at + 1) all left ahead (front ++ c ∷ []) h;
}

pub stops_long : (limit longest at : ℕ) (all left : Option (List ℕ)) (ahead front : List ℕ) (before now : ℕ) → BytesTaken longest at all left ahead front
    → longest ≤ at → IsUnfinished limit front → ReadStopped (pbm limit longest) all left before now (error.Bad fault.TooLong)
stops_long limit longest at all left ahead front before now h l u = record {
  comes = long_fault limit longest all (ahead_of ahead left) front h.takes (omega (arith, h.room, h.many)) u;
  within = taken_within longest at all left ahead front h;
}

-- a byte that ends a raster whose bytes hold the values of a picture
pub spelled : (limit longest : ℕ) (form : Form) (front rest : List ℕ) (c : ℕ) (X : Picture) (width height raster : List ℕ)
    → IsInRaster form limit (front ++ c ∷ []) width height raster → X.sides ≡ number_value width ∷ number_value height ∷ []
    → HoldValues form (number_value width) (number_value height) (holders form raster) X.values → length X.values ≡ box_count X.sides
    → holds_pixels form c ≡ true → length front < longest → Pbm limit longest ((front ++ c ∷ []) ++ rest) X (length front + 1)
spelled limit longest form front rest c X width height raster i s v f p l =
    let k : length (front ++ c ∷ []) ≡ length front + 1 = length_push front c in
    record {
      form = form;
      width = width;
      height = height;
      raster = raster;
      front = rw (take_at (front ++ c ∷ []) rest (length front + 1) k) i;
      sides = s;
      values = v;
      filled = f;
      last = (length front, refl, (c, rw append_assoc (byte_at front rest c), p));
      short = omega arith;
    }

-- such a byte on a desk
pub picture_last : (limit longest at : ℕ) (all left : Option (List ℕ)) (ahead front : List ℕ) (X : Picture)
    → ((rest : List ℕ) → Pbm limit longest (front ++ rest) X (length front)) → BytesTaken longest at all left ahead front
    → PictureRead (pbm limit longest) all left X
picture_last limit longest at all left ahead front X p t =
    record { spells = told all (ahead_of ahead left) t.takes; within = taken_within longest at all left ahead front t }
  where
    told : (all rest : Option (List ℕ)) → Takes all rest front → IfTold all (SpellsPicture limit longest X)
    told all None k = rw k tt
    told all (Some xs) k = rw k (length front, p xs)

-- an error of a later part is one of the whole
pub stops_earlier : (F : Format) (all left : Option (List ℕ)) (before mid now : ℕ) (e : PictureError) → before ≤ mid → ReadStopped F all left mid now e
    → ReadStopped F all left before now e
stops_earlier F all left before mid now error.ReadFault l h = record { comes = (let r = h.comes in omega arith); within = h.within }
stops_earlier F all left before mid now (error.Bad f) l h = record { comes = h.comes; within = h.within }
stops_earlier F all left before mid now error.NoMemory l h = record { comes = h.comes; within = h.within }

-- an answer of a later part is one of the whole
pub answer_earlier : (F : Format) (all left : Option (List ℕ)) (before mid now : ℕ) (r : Result Picture PictureError) → before ≤ mid
    → PictureAnswer F all left mid now r → PictureAnswer F all left before now r
answer_earlier F all left before mid now (Ok X) l h = h
answer_earlier F all left before mid now (Err e) l h = stops_earlier F all left before mid now e l h
