-- Which places are known to be painted, and which balls they hold.
-- Laws over pictures and lists alone.
use Rattle.std.proofs.Common.{◌≡◌, ℕ, ◌<◌, ◌≤◌, Bool, true, false, refl, ap, sym, ◌∙◌, subst, arith, List, length, get_or, set, replicate}
use Rattle.std.specs.Prelude.{slice_index, slice_get, Some}
use Rattle.std.proofs.lemmas.Bool.{ltb-true}
use Rattle.std.proofs.lemmas.List.{length-set, get_or-set_same, get_or-set_other, get_or-replicate}
use Rattle.std.proofs.lemmas.Option.{get_or_from_slice_get}
use native.Mathlib.Decide.{ℕ_discrete}
use Rattle.shape_terms.specs.Points.{raster_number, raster_point, box_count, squared_distance}
use Rattle.shape_terms.specs.Pictures.{Picture, at, blank}
use Rattle.shape_terms.specs.Distances.{AreDistances}
use Rattle.shape_terms.proofs.Boxes.{raster_number-raster_point}
use Rattle.shape_terms.proofs.BoxLists.{at_raster_point}
use Rattle.shape_terms.proofs.ObjectPlaces.{length-raster_point}
use Rattle.shape_window.specs.Windows.{is_nearer}
use Rattle.shape_thickness.specs.Painting.{IsPainted, IsNearPlace, IsKnown}
use Rattle.shape_thickness.proofs.PaintSteps.{painted_none, painted_stays}

-- ---- known places

-- of a blank picture there are none
pub known_none : (sides : List ℕ) (Y : Picture) (values : List ℕ) → Y ≡ blank sides → IsKnown sides Y values
known_none sides Y values e = record {
  sides_are = ap (λ Y. Y.sides) e;
  painted = λ i l h. (
      let z : get_or (replicate (box_count sides) false) i false ≡ false = get_or-replicate (box_count sides) i false false l in
      let f : true ≡ false = sym h ∙ (ap (λ Y. at Y (raster_point sides i)) e ∙ (at_raster_point (blank sides) i l ∙ z)) in cc);
}

-- one place more
pub known_place : (sides : List ℕ) (Y Z : Picture) (values : List ℕ) (i : ℕ) → i < box_count sides → 0 < slice_index values i
    → Z ≡ record { sides = Y.sides; values = set Y.values i true }
    → IsKnown sides Y values → IsKnown sides Z values
known_place sides Y Z values i inside some e h =
    let same : Y.sides ≡ sides = h.sides_are in
    let s : Z.sides ≡ sides = ap (λ Z. Z.sides) e ∙ same in
    let v : Z.values ≡ set Y.values i true = ap (λ Z. Z.values) e in
    record {
      sides_are = s;
      painted = λ j l o. elim (ℕ_discrete j i) [
        | yes is ↦ subst (λ k. 0 < slice_index values k) (sym is) some
        | no other ↦ (
            let at_z = at_raster_point Z j (omega (arith, l, ap box_count s)) in
            let at_y = at_raster_point Y j (omega (arith, l, ap box_count same)) in
            let moved_z = ap (λ n. at Z (raster_point n j)) s in
            let moved_y = ap (λ n. at Y (raster_point n j)) same in
            let read : get_or Z.values j false ≡ get_or Y.values j false = ap (λ u. get_or u j false) v ∙ get_or-set_other Y.values i j true false other in
            h.painted j l (sym moved_y ∙ (at_y ∙ (sym read ∙ (sym at_z ∙ (moved_z ∙ o))))))
      ];
    }

-- what is painted stays
pub known_more : (sides : List ℕ) (Y : Picture) (may must : ℕ → Type 0) (s : ℕ) (old new : List ℕ) → length old ≡ box_count sides → IsPainted may must s old new
    → IsKnown sides Y old → IsKnown sides Y new
known_more sides Y may must s old new filled p h = record {
  sides_are = h.sides_are;
  painted = λ i l o.
      let a = h.painted i l o in
      let e = painted_stays may must s old new i p (omega (arith, l, filled)) a in
      omega (arith, a, e);
}

-- ---- balls of known places

-- what is nearer to a place than the square of its depth is object
pub deep : (Y : Picture) (ds : List ℕ) (place s d j : ℕ) → AreDistances Y ds → place < box_count Y.sides → at Y (raster_point Y.sides place) ≡ true
    → slice_get ds place ≡ Some d → s ≤ d → j < box_count Y.sides
    → is_nearer (raster_point Y.sides place) s (raster_point Y.sides j) ≡ true → at Y (raster_point Y.sides j) ≡ true
deep Y ds place s d j are inside o read most l near = by_value (at Y (raster_point Y.sides j)) refl
  where
    by_value : (b : Bool) → at Y (raster_point Y.sides j) ≡ b → at Y (raster_point Y.sides j) ≡ true
    by_value true e = e
    by_value false e =
        let n = ltb-true (squared_distance (raster_point Y.sides place) (raster_point Y.sides j)) s near in
        let has = are.least (raster_point Y.sides place) o in
        let least = has.1.least (raster_point Y.sides j) (record { point = length-raster_point Y.sides j; value = e }) in
        let is : slice_index ds (raster_number Y.sides (raster_point Y.sides place)) ≡ d = ap (slice_index ds) (raster_number-raster_point Y.sides place inside)
        ∙ get_or_from_slice_get ds place d 0 read in
        absurd (omega (arith, n, least, is, most))

-- a ball of known places has nothing left to paint
pub painted_ball : (sides : List ℕ) (Y : Picture) (place s : ℕ) (values : List ℕ) → length values ≡ box_count sides → IsKnown sides Y values
    → ((j : ℕ) → j < box_count Y.sides → is_nearer (raster_point Y.sides place) s (raster_point Y.sides j) ≡ true → at Y (raster_point Y.sides j) ≡ true)
    → IsPainted (IsNearPlace sides (raster_point sides place) s) (IsNearPlace sides (raster_point sides place) s) s values values
painted_ball sides Y place s values filled h hold = painted_none (IsNearPlace sides (raster_point sides place) s)
    (IsNearPlace sides (raster_point sides place) s) s values (λ j l near.
    let all = subst (λ n. (j : ℕ) → j < box_count n → is_nearer (raster_point n place) s (raster_point n j) ≡ true → at Y (raster_point n j) ≡ true) h.sides_are
    hold in
    let b : j < box_count sides = omega (arith, l, filled) in
    h.painted j b (all j b near))
