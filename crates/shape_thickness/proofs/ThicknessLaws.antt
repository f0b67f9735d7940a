-- That a point has one thickness and a picture one list of them, and what the greatest squares are where the squares are distances.
-- Laws over pictures and lists alone.
use Rattle.std.proofs.Common.{◌≡◌, inl, inr, ℕ, ◌+◌, ◌<◌, ◌≤◌, Bool, zero, suc, ◌*◌, [], ◌∷◌, true, false, refl, ap, sym, ◌∙◌, subst, arith, List, length}
use Rattle.std.specs.Prelude.{slice_index, ℤ, pos, negsuc, ◌-ℤ◌, nat_abs}
use Rattle.std.proofs.lemmas.Int.{ints}
use Rattle.std.proofs.lemmas.Nat.{mul-le}
use Rattle.std.proofs.lemmas.List.{ext_get_or}
use native.Mathlib.Decide.{dec_lt}
use Rattle.shape_terms.specs.Points.{Point, raster_number, raster_point, box_count, squared_distance}
use Rattle.shape_terms.specs.Pictures.{Picture, at}
use Rattle.shape_terms.specs.Parts.{Object}
use Rattle.shape_terms.specs.Thinning.{HasDistance}
use Rattle.shape_terms.specs.Distances.{AreDistances}
use Rattle.shape_terms.proofs.SquaredDistances.{squared_distance-cons}
use Rattle.shape_terms.proofs.ThinningOnce.{one_distance}
use Rattle.shape_terms.proofs.Boxes.{in_box_length, raster_below, raster_number-raster_point, raster_point-raster_number}
use Rattle.shape_terms.proofs.ObjectPlaces.{object_in_box, length-raster_point}
use Rattle.measure_terms.specs.Thickness.{IsInBall, IsThickness, AreThicknesses}
use Rattle.shape_thickness.specs.Greatest.{square_at, IsHeld, AreGreatest}

-- ---- one thickness

pub one_thickness : (X : Picture) (p : Point) (t u : ℕ) → IsThickness X p t → IsThickness X p u → t ≡ u
one_thickness X p t u a b =
    let l = a.greatest b.centre u b.some in
    let m = b.greatest a.centre t a.some in
    omega (arith, l, m)

distance_same : (p : Point) → squared_distance p p ≡ 0
distance_same [] = refl
distance_same (x ∷ p) =
    let z : nat_abs (x -ℤ x) ≡ 0 = (let e : x -ℤ x ≡ pos 0 = omega (arith, ints) in ap nat_abs e) in
    rw (squared_distance-cons x x p p, z, distance_same p) refl

none_abs : (z : ℤ) → nat_abs z ≡ 0 → z ≡ pos 0
none_abs (pos n) e = ap pos e
none_abs (negsuc n) e = absurd (omega (arith, ints))

none_square : (g rest : ℕ) → g * g + rest ≡ 0 → (g ≡ 0) × (rest ≡ 0)
none_square zero rest e = (refl, omega arith)
none_square (suc g) rest e = absurd (let h : (suc g) * (suc g) + rest ≡ 0 = e in omega (arith, mul-le 1 1 (suc g) (suc g) (omega arith) (omega arith)))

-- points that are not apart are one
none_apart : (p q : Point) → length p ≡ length q → squared_distance p q ≡ 0 → q ≡ p
none_apart [] [] l e = refl
none_apart [] (y ∷ q) l e = absurd (omega arith)
none_apart (x ∷ p) [] l e = absurd (omega arith)
none_apart (x ∷ p) (y ∷ q) l e =
    let z = none_square (nat_abs (x -ℤ y)) (squared_distance p q) (sym (squared_distance-cons x y p q) ∙ e) in
    let d = none_abs (x -ℤ y) z.0 in
    let h : y ≡ x = omega (arith, ints, d) in
    let r = none_apart p q (omega arith) z.1 in
    λ i. h i ∷ r i

-- the ball of an object point holds it
own_ball : (X : Picture) (p : Point) (s : ℕ) → Object X p → HasDistance X p s → squared_distance p p < s
own_ball X p s o d = elim (dec_lt 0 s) [
  | yes l ↦ (let e = distance_same p in omega (arith, e, l))
  | no n ↦ (
      let z : s ≡ 0 = omega arith in
      let far : squared_distance p d.0 ≡ 0 = sym d.1.distance ∙ z in
      let same : d.0 ≡ p = none_apart p d.0 (in_box_length X.sides p (object_in_box X p o) ∙ sym d.1.background.point) far in
      let f : true ≡ false = sym o ∙ (ap (at X) (sym same) ∙ d.1.background.value) in cc)
]

pub no_thinner : (X : Picture) (p : Point) (s t : ℕ) → Object X p → HasDistance X p s → IsThickness X p t → s ≤ t
no_thinner X p s t o d h = h.greatest p s (record { object = o; distance = d; nearer = own_ball X p s o d })

-- ---- one list

same_at : (X : Picture) (ts us : List ℕ) (i : ℕ) (b : Bool) → AreThicknesses X ts → AreThicknesses X us → i < box_count X.sides
    → at X (raster_point X.sides i) ≡ b → slice_index ts i ≡ slice_index us i
same_at X ts us i true a c l e =
    let p = raster_point X.sides i in
    let n : raster_number X.sides p ≡ i = raster_number-raster_point X.sides i l in
    let same : slice_index ts (raster_number X.sides p) ≡ slice_index us (raster_number X.sides p) = one_thickness X p _ _ (a.object p e) (c.object p e) in
    sym (ap (slice_index ts) n) ∙ (same ∙ ap (slice_index us) n)
same_at X ts us i false a c l e = a.background i l e ∙ sym (c.background i l e)

pub one_list : (X : Picture) (ts us : List ℕ) → AreThicknesses X ts → AreThicknesses X us → ts ≡ us
one_list X ts us a c =
    let m = a.filled in
    ext_get_or 0 ts us (a.filled ∙ sym c.filled) (λ i l. same_at X ts us i (at X (raster_point X.sides i)) a c (omega arith) refl)

-- ---- greatest balls

module _ (X : Picture) (ds ts : List ℕ) (d : AreDistances X ds) (g : AreGreatest X ds ts) where
  -- a ball of the picture is one that the list tells
  told_ball : (c p : Point) (s : ℕ) → IsInBall X c s p → IsHeld X ds c p
  told_ball c p s b =
      let e : square_at X ds c ≡ s = one_distance X c (square_at X ds c) s (d.least c b.object) b.distance in
      let n = b.nearer in
      record { object = b.object; nearer = omega (arith, e, n) }

  ball_most : (i : ℕ) (c : Point) (s : ℕ) → i < box_count X.sides → IsInBall X c s (raster_point X.sides i) → s ≤ slice_index ts i
  ball_most i c s l b =
      let e : square_at X ds c ≡ s = one_distance X c (square_at X ds c) s (d.least c b.object) b.distance in
      let m = g.most i c l (told_ball c (raster_point X.sides i) s b) in
      omega (arith, e, m)

  at_object : (i : ℕ) → i < box_count X.sides → Object X (raster_point X.sides i) → IsThickness X (raster_point X.sides i) (slice_index ts i)
  at_object i l o =
      let p = raster_point X.sides i in
      let s = square_at X ds p in
      let own = own_ball X p s o (d.least p o) in
      let m = ball_most i p s l (record { object = o; distance = d.least p o; nearer = own }) in
      let f = g.some i l (omega (arith, own, m)) in
      let n = f.1.nearer in
      let e = f.2 in
      record {
        centre = f.0;
        some = record { object = f.1.object; distance = subst (HasDistance X f.0) (sym e) (d.least f.0 f.1.object); nearer = omega (arith, n, e) };
        greatest = λ c u b. ball_most i c u l b;
      }

  at_background : (i : ℕ) → i < box_count X.sides → at X (raster_point X.sides i) ≡ false → slice_index ts i ≡ 0
  at_background i l o = elim (dec_lt 0 (slice_index ts i)) [
    | no n ↦ omega arith
    | yes m ↦ (
        let f = g.some i l m in
        let least = (d.least f.0 f.1.object).1.least (raster_point X.sides i) (record { point = length-raster_point X.sides i; value = o }) in
        let n = f.1.nearer in
        absurd (omega (arith, least, n)))
  ]

  thicknesses_are : AreThicknesses X ts
  thicknesses_are = record {
    filled = g.filled;
    object = λ p o.
        let inside = object_in_box X p o in
        let i = raster_number X.sides p in
        let back : raster_point X.sides i ≡ p = raster_point-raster_number X.sides p inside in
        subst (λ (p : Point). IsThickness X p (slice_index ts i)) back (at_object i (raster_below X.sides p inside) (ap (at X) back ∙ o));
    background = at_background;
  }

pub greatest_are_thicknesses : (X : Picture) (ds ts : List ℕ) → AreDistances X ds → AreGreatest X ds ts → AreThicknesses X ts
greatest_are_thicknesses X ds ts d g = thicknesses_are X ds ts d g
