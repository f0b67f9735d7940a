-- A volume is read point by point: what is known of its values, and what its end says.
-- Over plain variables; the reader is `volume`.
use Rattle.std.proofs.Common.{◌≡◌, ℕ, ◌+◌, ◌-◌, ◌<◌, Bool, false, List, [], ◌∷◌, ◌++◌, length, get_or, map, replicate, Option, None, Some, refl, sym, ap, ◌∙◌}
use Rattle.std.proofs.Common.{inl, inr, ⊎_elim, arith}
use Rattle.std.specs.Prelude.{◌⊎◌, ◌&&◌}
use Rattle.std.proofs.Math.ListN.{get_or-map}
use Rattle.std.proofs.lemmas.Bool.{cases_lt}
use Rattle.std.proofs.lemmas.List.{append-nil, length-append, length-map, length_push, map_push}
use Rattle.shape_terms.specs.Points.{Point, box_count, in_box, raster_number}
use Rattle.shape_terms.specs.Pictures.{Picture, blank, at}
use Rattle.shape_desk.specs.Desk.{Takes, IsEnd, Rose}
use Rattle.shape_desk.specs.Line.{IfTold, ahead_of}
use Rattle.shape_picture.specs.declared.fault.PictureFault.{PictureFault}
use Rattle.shape_picture.specs.declared.fault.PictureFault.TheVariants as fault
use Rattle.shape_picture.specs.declared.fault.PictureError.TheVariants as error
use Rattle.shape_picture.specs.Raw.{Raw, RawFault, is_object}
use Rattle.shape_picture.specs.Answers.{raw, SpellsSome, HasFault, ReadStopped, PictureRead}
use Rattle.shape_picture.specs.Parts.{BytesTaken, VolumeSoFar}
use Rattle.shape_picture.proofs.AtMostOne.{same_picture}
use Rattle.shape_picture.proofs.ByteSteps.{taken_within}
use Rattle.shape_picture.proofs.ValueSteps.{put_value, values_next}

-- ---- the law

pub some_volume : (sides bytes : List ℕ) → SpellsSome (raw sides) bytes ⊎ HasFault (raw sides) bytes
some_volume sides bytes =
    let n = box_count sides in
    ⊎_elim (λ l. inr (fault.Short (length bytes), (refl, l)))
    (λ l. ⊎_elim (λ k. inr (fault.Trailing, k))
    (λ k. inl (record { sides = sides; values = map is_object bytes }, record { as_many = omega (arith, k, l); sides_are = refl; values = refl }))
    (cases_lt n (length bytes)))
    (cases_lt (length bytes) n)

pub not_both_volume : (sides bytes : List ℕ) (X : Picture) (f : PictureFault) → Raw sides bytes X → RawFault sides bytes f → ⊥
not_both_volume sides bytes X (fault.Short n) h k = omega (arith, h.as_many, k.0, k.1)
not_both_volume sides bytes X fault.Trailing h k = omega (arith, h.as_many, k)
not_both_volume sides bytes X f h k = k

pub one_volume_picture : (sides bytes : List ℕ) (X Y : Picture) → Raw sides bytes X → Raw sides bytes Y → X ≡ Y
one_volume_picture sides bytes X Y h k = same_picture X Y (h.sides_are ∙ sym k.sides_are) (h.values ∙ sym k.values)

-- the two faults
by_length : (sides bytes : List ℕ) (f : PictureFault) → RawFault sides bytes f → ((length bytes < box_count sides) × (f ≡ fault.Short (length bytes)))
    ⊎ ((box_count sides < length bytes) × (f ≡ fault.Trailing))
by_length sides bytes (fault.Short n) h = inl (omega (arith, h.0, h.1), ap fault.Short h.0)
by_length sides bytes fault.Trailing h = inr (h, refl)
by_length sides bytes fault.NotPlain h = absurd h
by_length sides bytes (fault.BadNumber i) h = absurd h
by_length sides bytes fault.ZeroSide h = absurd h
by_length sides bytes (fault.SideTooLarge n) h = absurd h
by_length sides bytes (fault.BadByte i) h = absurd h
by_length sides bytes fault.TooLong h = absurd h

pub one_volume_fault : (sides bytes : List ℕ) (f g : PictureFault) → RawFault sides bytes f → RawFault sides bytes g → f ≡ g
one_volume_fault sides bytes f g h k =
    ⊎_elim (λ a. ⊎_elim (λ b. a.1 ∙ sym b.1) (λ b. absurd (omega (arith, a.0, b.0))) (by_length sides bytes g k))
    (λ a. ⊎_elim (λ b. absurd (omega (arith, a.0, b.0))) (λ b. a.1 ∙ sym b.1) (by_length sides bytes g k)) (by_length sides bytes f h)

pub volume_point : (sides bytes : List ℕ) (X : Picture) (p : Point) → Raw sides bytes X
    → at X p ≡ (in_box sides p && is_object (get_or bytes (raster_number sides p) 0))
volume_point sides bytes X p h = rw (h.sides_are, h.values) (ap (λ (b : Bool). in_box sides p && b) (get_or-map is_object bytes (raster_number sides p) 0))

-- ---- the reading

-- the same bytes, by other names of the numbers
pub same_taken : (n m i k : ℕ) (all left : Option (List ℕ)) (ahead front : List ℕ) → n ≡ m → i ≡ k → BytesTaken (n + 1) i all left ahead front
    → BytesTaken (m + 1) k all left ahead front
same_taken n m i k all left ahead front e f h = rw (← e, ← f) h

-- no byte yet
pub volume_start : (sides : List ℕ) (X : Picture) (left : Option (List ℕ)) (ahead : List ℕ) → X ≡ blank sides → ahead ≡ []
    → VolumeSoFar sides 0 X left left ahead
volume_start sides X left ahead e z = record {
  front = [];
  same_sides = ap (λ (X : Picture). X.sides) e;
  values = ap (λ (X : Picture). X.values) e ∙ ap (λ (n : ℕ). replicate n false) all;
  taken = record { many = refl; takes = rw z (none left); room = rw z (omega arith) };
}
  where
    all : box_count sides ≡ box_count sides - 0
    all = omega arith

    none : (left : Option (List ℕ)) → Takes left (ahead_of [] left) []
    none None = refl
    none (Some xs) = refl

-- a byte more
pub volume_next : (sides : List ℕ) (i c : ℕ) (X Y : Picture) (all old new : Option (List ℕ)) (before_ahead ahead : List ℕ)
    → (h : VolumeSoFar sides i X all old before_ahead) → i < box_count sides
    → BytesTaken (box_count sides + 1) (i + 1) all new ahead (h.front ++ c ∷ []) → Y.sides ≡ X.sides → Y.values ≡ put_value X.values i (is_object c)
    → VolumeSoFar sides (i + 1) Y all new ahead
volume_next sides i c X Y all old new before_ahead ahead h l t s e =
    let k : length (map is_object h.front) ≡ i = length-map h.front is_object ∙ h.taken.many in
    record {
      front = h.front ++ c ∷ [];
      same_sides = s ∙ h.same_sides;
      values = e ∙ values_next (map is_object h.front) X.values i (box_count sides) (is_object c) h.values k l
          ∙ ap (λ (l : List Bool). l ++ replicate (box_count sides - (i + 1)) false) (sym (map_push is_object h.front c));
      taken = t;
    }

-- the file ends within the volume
pub volume_short : (sides : List ℕ) (i : ℕ) (all left : Option (List ℕ)) (ahead front : List ℕ) (before now : ℕ)
    → BytesTaken (box_count sides + 1) i all left ahead front → IsEnd (ahead_of ahead left) → i < box_count sides
    → ReadStopped (raw sides) all left before now (error.Bad (fault.Short i))
volume_short sides i all left ahead front before now t z l =
    record { comes = told all (ahead_of ahead left) t.takes z; within = taken_within (box_count sides + 1) i all left ahead front t }
  where
    told : (all rest : Option (List ℕ)) → Takes all rest front → IsEnd rest → IfTold all (λ bytes. RawFault sides bytes (fault.Short i))
    told all None e z = rw e tt
    told all (Some xs) e z = rw (e, z, append-nil front) (sym t.many, l)

-- a read failed
pub volume_failed : (sides : List ℕ) (i : ℕ) (all left : Option (List ℕ)) (ahead front : List ℕ) (before now : ℕ)
    → BytesTaken (box_count sides + 1) i all left ahead front → Rose before now → ReadStopped (raw sides) all left before now error.ReadFault
volume_failed sides i all left ahead front before now t r = record { comes = r; within = taken_within (box_count sides + 1) i all left ahead front t }

-- the file ends behind the volume
pub volume_done : (sides : List ℕ) (X : Picture) (all old new : Option (List ℕ)) (before_ahead ahead : List ℕ)
    (h : VolumeSoFar sides (box_count sides) X all old before_ahead) → BytesTaken (box_count sides + 1) (box_count sides) all new ahead h.front
    → IsEnd (ahead_of ahead new) → PictureRead (raw sides) all new X
volume_done sides X all old new before_ahead ahead h t z =
    record { spells = told all (ahead_of ahead new) t.takes z; within = taken_within (box_count sides + 1) (box_count sides) all new ahead h.front t }
  where
    none : box_count sides - box_count sides ≡ 0
    none = omega arith

    whole : Raw sides h.front X
    whole = record {
      as_many = h.taken.many;
      sides_are = h.same_sides;
      values = h.values ∙ ap (λ (n : ℕ). map is_object h.front ++ replicate n false) none ∙ append-nil (map is_object h.front);
    }

    told : (all rest : Option (List ℕ)) → Takes all rest h.front → IsEnd rest → IfTold all (λ bytes. Raw sides bytes X)
    told all None e z = rw e tt
    told all (Some xs) e z = rw (e, z, append-nil h.front) whole

-- a byte follows the volume
pub volume_trailing : (sides : List ℕ) (c : ℕ) (all left : Option (List ℕ)) (ahead front : List ℕ) (before now : ℕ) → length front ≡ box_count sides
    → BytesTaken (box_count sides + 1) (box_count sides + 1) all left ahead (front ++ c ∷ [])
    → ReadStopped (raw sides) all left before now (error.Bad fault.Trailing)
volume_trailing sides c all left ahead front before now m t =
    record {
      comes = told all (ahead_of ahead left) t.takes;
      within = taken_within (box_count sides + 1) (box_count sides + 1) all left ahead (front ++ c ∷ [])
          t;
    }
  where
    told : (all rest : Option (List ℕ)) → Takes all rest (front ++ c ∷ []) → IfTold all (λ bytes. RawFault sides bytes fault.Trailing)
    told all None e = rw e tt
    told all (Some xs) e = rw e (omega (arith, length-append (front ++ c ∷ []) xs, length_push front c, m))
