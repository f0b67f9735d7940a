-- A crack of a picture has a number of its own, below four times the number of pixels, and numbers rise with the order of cracks.
-- They rest on the laws of raster numbers alone.
use Rattle.std.proofs.Common.{◌≡◌, ℕ, ◌*◌, ◌/◌, ◌%◌, ◌<◌, ap, sym, ◌∙◌, arith, List, inl, inr}
use Rattle.std.specs.Prelude.{IsTrue}
use Rattle.std.proofs.lemmas.Bool.{and_parts}
use native.Mathlib.Decide.{dec_lt}
use Rattle.shape_terms.specs.Points.{Point, in_box, box_count, raster_number, raster_point}
use Rattle.shape_terms.specs.Pictures.{Picture, at}
use Rattle.shape_terms.specs.Contours.{Crack, IsCrack, CrackBefore}
use Rattle.shape_terms.specs.CrackNumbers.{crack_number, numbered}
use Rattle.shape_terms.proofs.Boxes.{raster_below, raster_number-raster_point, raster_point-raster_number}
use Rattle.shape_terms.proofs.RasterOrder.{raster_rises, nat_less}

-- an object point lies in the box
pub object_in_box : (X : Picture) (p : Point) → IsTrue (at X p) → IsTrue (in_box X.sides p)
object_in_box X p h = (and_parts (in_box X.sides p) _ h).0

pub number_below : (X : Picture) (c : Crack) → IsCrack X c → crack_number X.sides c < box_count X.sides * 4
number_below X c k =
    let b = raster_below X.sides c.pixel (object_in_box X c.pixel k.pixel) in
    let s = k.side in
    omega arith

-- a crack is the one of its number
pub is_numbered : (X : Picture) (c : Crack) → IsCrack X c → c ≡ numbered X.sides (crack_number X.sides c)
is_numbered X c k =
    let s = k.side in
    let q : crack_number X.sides c / 4 ≡ raster_number X.sides c.pixel = omega arith in
    let r : crack_number X.sides c % 4 ≡ c.side = omega arith in
    let p : c.pixel ≡ raster_point X.sides (crack_number X.sides c / 4) =
    sym (ap (raster_point X.sides) q ∙ raster_point-raster_number X.sides c.pixel (object_in_box X c.pixel k.pixel)) in
    λ i. record { pixel = p i; side = sym r i }

pub number_once : (X : Picture) (c d : Crack) → IsCrack X c → IsCrack X d → crack_number X.sides c ≡ crack_number X.sides d → c ≡ d
number_once X c d k l e = is_numbered X c k ∙ (ap (numbered X.sides) e ∙ sym (is_numbered X d l))

-- of two cracks the one with the smaller number stands first
pub number_rises : (X : Picture) (c d : Crack) → IsCrack X c → IsCrack X d → crack_number X.sides c < crack_number X.sides d → CrackBefore c d
number_rises X c d k l h =
    let ci = object_in_box X c.pixel k.pixel in
    let di = object_in_box X d.pixel l.pixel in
    let s = k.side in
    let t = l.side in
    elim (dec_lt (raster_number X.sides c.pixel) (raster_number X.sides d.pixel)) [
      | yes m ↦ inl (raster_rises X.sides c.pixel d.pixel ci di ∙ nat_less (raster_number X.sides c.pixel) (raster_number X.sides d.pixel) m)
      | no m ↦
          (let e : raster_number X.sides c.pixel ≡ raster_number X.sides d.pixel = omega arith in
          inr (
            sym (raster_point-raster_number X.sides c.pixel ci) ∙ (ap (raster_point X.sides) e ∙ raster_point-raster_number X.sides d.pixel di),
            omega arith,
          ))
    ]

-- the number of the crack of a number
pub numbered_back : (sides : List ℕ) (i : ℕ) → i < box_count sides * 4 → crack_number sides (numbered sides i) ≡ i
numbered_back sides i l =
    let e = raster_number-raster_point sides (i / 4) (omega arith) in
    omega arith
