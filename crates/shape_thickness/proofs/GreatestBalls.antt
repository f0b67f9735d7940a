-- What painting balls from the greatest to the smallest gives.
-- Laws over pictures and lists alone.
use Rattle.std.proofs.Common.{◌≡◌, inl, inr, ℕ, ◌+◌, ◌<◌, ◌≤◌, true, ap, sym, ◌∙◌, subst, arith, List, length}
use Rattle.std.specs.Prelude.{slice_index}
use Rattle.std.proofs.lemmas.Bool.{ltb-true, lt-ltb}
use native.Mathlib.Decide.{dec_lt}
use Rattle.shape_terms.specs.Points.{Point, raster_number, raster_point, box_count, squared_distance}
use Rattle.shape_terms.specs.Pictures.{Picture, at}
use Rattle.shape_terms.proofs.Boxes.{raster_below, raster_number-raster_point, raster_point-raster_number}
use Rattle.shape_terms.proofs.ObjectPlaces.{object_in_box}
use Rattle.shape_thickness.specs.declared.centres.Centre.{Centre}
use Rattle.shape_thickness.specs.Centres.{AreRising}
use Rattle.shape_thickness.specs.Greatest.{square_at, IsHeld, AreGreatest}
use Rattle.shape_thickness.specs.Painting.{IsPainted, IsNearPlace}
use Rattle.shape_thickness.proofs.PaintSteps.{painted_stays}
use Rattle.shape_thickness.proofs.CentreSteps.{centre_of, centre_below, centre_object, centre_square, later_greater, numbered}

-- ---- balls from the greatest to the smallest

-- the balls of the centres with numbers from k on are painted: what a place has is of one of them that holds it, and no less than any of them that holds it
pub record ArePaintedFrom (sides : List ℕ) (centres : List Centre) (k : ℕ) (values : List ℕ) : Type 0 where
  pub filled : length values ≡ box_count sides
  pub from : (j : ℕ) → j < length values → 0 < slice_index values j → (m : ℕ) × (k ≤ m) × (m < length centres)
      × (slice_index values j ≡ (centre_of centres m).s) × IsNearPlace sides (raster_point sides (centre_of centres m).place) (centre_of centres m).s j
  pub passed : (j m : ℕ) → j < length values → k ≤ m → m < length centres
      → IsNearPlace sides (raster_point sides (centre_of centres m).place) (centre_of centres m).s j
      → (0 < slice_index values j) × ((centre_of centres m).s ≤ slice_index values j)

pub painted_start : (sides : List ℕ) (centres : List Centre) (k : ℕ) (values : List ℕ) → length centres ≤ k → length values ≡ box_count sides
    → ((j : ℕ) → j < length values → slice_index values j ≡ 0) → ArePaintedFrom sides centres k values
painted_start sides centres k values l e z = record {
  filled = e;
  from = λ j b h. (let n = z j b in absurd (omega (arith, n, h)));
  passed = λ j m b c d. absurd (omega arith);
}

module _ (X : Picture) (ds : List ℕ) (centres : List Centre) (a : AreRising X ds centres) where
  pub painted_more : (k : ℕ) (old new : List ℕ) → k < length centres → ArePaintedFrom X.sides centres (k + 1) old
      → IsPainted (IsNearPlace X.sides (raster_point X.sides (centre_of centres k).place) (centre_of centres k).s)
      (IsNearPlace X.sides (raster_point X.sides (centre_of centres k).place) (centre_of centres k).s) (centre_of centres k).s old new
      → ArePaintedFrom X.sides centres k new
  painted_more k old new l h p =
      let s = (centre_of centres k).s in
      let c = raster_point X.sides (centre_of centres k).place in
      let n = p.same_length in
      record {
        filled = n ∙ h.filled;
        from = λ j b o. elim (p.each j (omega arith)) [
          | inl e ↦ (let f = h.from j (omega arith) (omega (arith, o, e)) in (f.0, (let g = f.1 in omega arith), f.2, e ∙ f.3, f.4))
          | inr e ↦ (k, (let z : k ≤ k = omega arith in z), l, e.1, e.2)
        ];
        passed = λ j m b g i near. elim (dec_lt k m) [
          | yes d ↦ (
              let old_one = h.passed j m (omega arith) (omega arith) i near in
              let e = painted_stays (IsNearPlace X.sides c s) (IsNearPlace X.sides c s) s old new j p (omega arith) old_one.0 in
              (omega (arith, e, old_one.0), omega (arith, e, old_one.1)))
          | no d ↦ (
              let q : m ≡ k = omega arith in
              let some = p.filled j (omega arith)
              (subst (λ m. IsNearPlace X.sides (raster_point X.sides (centre_of centres m).place) (centre_of centres m).s j) q near) in
              let most : s ≤ slice_index new j = elim (p.each j (omega arith)) [
                | inl e ↦ (
                    let f = h.from j (omega arith) (omega (arith, some, e)) in
                    let r = later_greater X ds centres a k f.0 (let g = f.1 in omega arith) f.2 in
                    let v = f.3 in
                    omega (arith, e, v, r))
                | inr e ↦ (let v = e.1 in omega (arith, v))
              ] in
              (some, subst (λ m. (centre_of centres m).s ≤ slice_index new j) (sym q) most))
        ];
      }

-- all balls are painted: each place has the greatest square of a ball that holds it
module _ (X : Picture) (ds : List ℕ) (centres : List Centre) (a : AreRising X ds centres) (values : List ℕ) (h : ArePaintedFrom X.sides centres 0 values) where
  -- the centre with a number as a point of the picture
  abbrev point_of : ℕ → Point
  point_of m = raster_point X.sides (centre_of centres m).place

  square_of : (m : ℕ) → m < length centres → square_at X ds (point_of m) ≡ (centre_of centres m).s
  square_of m l = ap (slice_index ds) (raster_number-raster_point X.sides (centre_of centres m).place (centre_below X ds centres a m l))
      ∙ sym (centre_square X ds centres a m l)

  held : (m j : ℕ) → m < length centres → IsNearPlace X.sides (point_of m) (centre_of centres m).s j → IsHeld X ds (point_of m) (raster_point X.sides j)
  held m j l near =
      let t = ltb-true (squared_distance (point_of m) (raster_point X.sides j)) (centre_of centres m).s near in
      let e = square_of m l in
      record { object = centre_object X ds centres a m l; nearer = omega (arith, t, e) }

  -- each ball that holds the point of a place has been painted there
  ball_passed : (c : Point) (j : ℕ) → j < length values → IsHeld X ds c (raster_point X.sides j) → square_at X ds c ≤ slice_index values j
  ball_passed c j l b =
      let inside = object_in_box X c b.object in
      let i = raster_number X.sides c in
      let back : raster_point X.sides i ≡ c = raster_point-raster_number X.sides c inside in
      let m = numbered X ds centres a i (raster_below X.sides c inside) (ap (at X) back ∙ b.object) in
      let k = m.0 in
      let at_c : point_of k ≡ c = ap (raster_point X.sides) m.2 ∙ back in
      let is : (centre_of centres k).s ≡ square_at X ds c = centre_square X ds centres a k m.1 ∙ ap (slice_index ds) m.2 in
      let t : squared_distance (point_of k) (raster_point X.sides j) ≡ squared_distance c (raster_point X.sides j) =
      ap (λ c. squared_distance c (raster_point X.sides j)) at_c in
      let near = lt-ltb (squared_distance (point_of k) (raster_point X.sides j)) (centre_of centres k).s (let n = b.nearer in omega (arith, t, is, n)) in
      let r = h.passed j k l (omega arith) m.1 near in
      let v = r.1 in omega (arith, is, v)

  pub greatest_are : AreGreatest X ds values
  greatest_are =
      let m = h.filled in
      record {
        filled = m;
        some = λ i l o. (let f = h.from i (omega (arith, l, m)) o in (point_of f.0, held f.0 i f.2 f.4, f.3 ∙ sym (square_of f.0 f.2)));
        most = λ i c l b. ball_passed c i (omega (arith, l, m)) b;
      }
