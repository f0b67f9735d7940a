-- The squared distances of the object points, as they are put down one after another at their raster numbers.
-- Laws over pictures and lists.
use Rattle.std.proofs.Common.{◌≡◌, ℕ, ◌+◌, ◌<◌, ◌≤◌, false, sym, ◌∙◌, ap, subst, arith, List, [], length, get_or, set, inl, inr}
use Rattle.std.proofs.lemmas.List.{length-set, get_or-set_same, get_or-set_other}
use Rattle.std.proofs.lemmas.Bool.{cases_lt}
use native.Mathlib.Decide.{ℕ_discrete}
use Rattle.shape_terms.specs.Points.{Point, box_count, raster_number, raster_point}
use Rattle.shape_terms.specs.Pictures.{Picture, at, objects_from}
use Rattle.shape_terms.specs.Parts.{Object}
use Rattle.shape_terms.proofs.Boxes.{raster_below, raster_point-raster_number}
use Rattle.shape_terms.proofs.ObjectPlaces.{object_in_box}
use Rattle.shape_terms.specs.Thinning.{HasDistance}
use Rattle.shape_terms.specs.Distances.{AreDistances}
use Rattle.shape_terms.proofs.NextObjects.{AreBlank, IsNext, blank_to_end}

-- there is a place for each point, and the object points before the raster number have their distances
pub record DistancesTo (X : Picture) (next : ℕ) (distances : List ℕ) : Type 0 where
  pub filled : length distances ≡ box_count X.sides
  pub least : (q : Point) → Object X q → raster_number X.sides q < next → HasDistance X q (get_or distances (raster_number X.sides q) 0)

-- no object point stands where all is background
none_between : (X : Picture) (next i : ℕ) (q : Point) → AreBlank X next i → Object X q → raster_number X.sides q < i → raster_number X.sides q < next
none_between X next i q blank o l = elim (cases_lt (raster_number X.sides q) next) [
  | inl m ↦ m
  | inr m ↦
      let here : at X (raster_point X.sides (raster_number X.sides q)) ≡ false = blank (raster_number X.sides q) m l in
      let there : at X (raster_point X.sides (raster_number X.sides q)) ≡ at X q = ap (at X) (raster_point-raster_number X.sides q (object_in_box X q o)) in
      absurd (cc)
]

pub none_yet : (X : Picture) (distances : List ℕ) → length distances ≡ box_count X.sides → DistancesTo X 0 distances
none_yet X distances e = record { filled = e; least = λ q o l. absurd (omega arith) }

pub distances_more : (X : Picture) (next i s : ℕ) (distances : List ℕ) → i < box_count X.sides → IsNext X next i → HasDistance X (raster_point X.sides i) s
    → DistancesTo X next distances → DistancesTo X (i + 1) (set distances i s)
distances_more X next i s distances b n d h = record {
  filled = length-set distances i s ∙ h.filled;
  least = λ q o l. elim (ℕ_discrete (raster_number X.sides q) i) [
    | yes e ↦
        let same : raster_point X.sides i ≡ q = sym (ap (raster_point X.sides) e) ∙ raster_point-raster_number X.sides q (object_in_box X q o) in
        let put : get_or (set distances i s) (raster_number X.sides q) 0 ≡ s = ap (λ k. get_or (set distances i s) k 0) e
        ∙ get_or-set_same distances i s 0 (omega (arith, h.filled)) in
        subst (HasDistance X q) (sym put) (subst (λ r. HasDistance X r s) same d)
    | no a ↦ subst (HasDistance X q) (sym (get_or-set_other distances i (raster_number X.sides q) s 0 a))
        (h.least q o (none_between X next i q n.blank o (omega arith)))
  ];
}

pub distances_all : (X : Picture) (next : ℕ) (distances : List ℕ) → next ≤ box_count X.sides → objects_from X next ≡ [] → DistancesTo X next distances
    → AreDistances X distances
distances_all X next distances l e h = record {
  filled = h.filled;
  least = λ q o. h.least q o (none_between X next (box_count X.sides) q (blank_to_end X next l e) o (raster_below X.sides q (object_in_box X q o)));
}
