-- What a search of the framed box shows of the whole space.
-- Stated of pictures and points alone, whatever the search does.
use Rattle.std.proofs.Common.{◌≡◌, inl, inr, ◌<◌, ◌≤◌, ℕ, false, ◌&&◌, length, ap, ◌∙◌, arith}
use Rattle.std.specs.Prelude.{IsTrue, get_or}
use Rattle.std.proofs.lemmas.Bool.{cases_Bool}
use Rattle.shape_terms.specs.Points.{Point, in_box, raster_number, box_count, squared_distance}
use Rattle.shape_terms.specs.Pictures.{Picture, at, IsBackground, Least}
use Rattle.shape_terms.specs.FramedBox.{framed_sides, framed_point}
use Rattle.shape_terms.proofs.FramedBoxes.{StandsFor, stand_in, length-framed_point, corner_outside}

at_outside : (X : Picture) (p : Point) → in_box X.sides p ≡ false → at X p ≡ false
at_outside X p e = ap (λ b. b && get_or X.values (raster_number X.sides p) false) e

-- the first point of the framed box is background
pub corner_background : (X : Picture) → 0 < length X.sides → IsBackground X (framed_point X.sides 0)
corner_background X d = record {
  point = length-framed_point X.sides 0;
  value = at_outside X (framed_point X.sides 0) (corner_outside X.sides d);
}

-- a point that stands for a background point is background
stand_in_background : (X : Picture) (r : Point) (i : ℕ) → StandsFor X.sides r i → at X r ≡ false → at X (framed_point X.sides i) ≡ false
stand_in_background X r i t b = elim (cases_Bool (in_box X.sides (framed_point X.sides i))) [
  | inl y ↦ ap (at X) (t.same y) ∙ b
  | inr n ↦ at_outside X (framed_point X.sides i) n
]

-- where no background point of the framed box is nearer than s, none of the whole space is
pub none_nearer : (X : Picture) (p : Point) (s : ℕ) → IsTrue (in_box X.sides p)
    → ((i : ℕ) → i < box_count (framed_sides X.sides) → at X (framed_point X.sides i) ≡ false → s ≤ squared_distance p (framed_point X.sides i)) → (r : Point)
    → IsBackground X r → s ≤ squared_distance p r
none_nearer X p s h all r c =
    let t = stand_in X.sides r c.point in
    omega (arith, all t.0 t.1.below (stand_in_background X r t.0 t.1 c.value), t.1.nearer p h)

pub least_found : (X : Picture) (p q : Point) (s : ℕ) → IsTrue (in_box X.sides p) → IsBackground X q → s ≡ squared_distance p q
    → ((i : ℕ) → i < box_count (framed_sides X.sides) → at X (framed_point X.sides i) ≡ false → s ≤ squared_distance p (framed_point X.sides i)) → Least X p q s
least_found X p q s h b e all = record {
  background = b;
  distance = e;
  least = none_nearer X p s h all;
}
