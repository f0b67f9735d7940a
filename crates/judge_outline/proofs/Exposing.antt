-- Exposed points of a face as a list.
-- Laws over pictures and points.
use Rattle.std.proofs.Common.{◌≡◌, ℕ, Bool, true, false, ap, sym, ◌∙◌, refl, subst, arith, inl, inr, List, [], ◌∷◌, map}
use Rattle.std.specs.Prelude.{IsTrue, not, filter, Contains, pos, negsuc}
use Rattle.std.proofs.lemmas.Int.{ints}
use Rattle.std.proofs.lemmas.Bool.{cond-true, cond-false, cases_Bool, and_parts}
use Rattle.shape_terms.specs.Limits.{most_solid, most_coordinate}
use Rattle.shape_terms.specs.Points.{Point, AreSides, sides_of, in_box, box_points, raster_number}
use Rattle.shape_terms.specs.Adjacency.{moved}
use Rattle.shape_terms.specs.Pictures.{Picture, at, object_points}
use Rattle.shape_terms.specs.FramedBox.{IsWithin}
use Rattle.shape_terms.proofs.FramedBoxes.{box_point_within}
use Rattle.shape_terms.proofs.Members.{Contains-filter}
use Rattle.shape_terms.proofs.SameCycles.{head_in, later_in, in_cases, in_none}
use Rattle.shape_terms.proofs.Boxes.{raster_below, raster_point-raster_number}
use Rattle.shape_terms.proofs.BoxLists.{length-box_points, get_or-box_points}
use Rattle.shape_terms.specs.Patches.{sense_step}
use Rattle.report_terms.specs.FaceFacts.{face_axis, face_sense}
use Rattle.judge_outline.specs.Exposure.{exposed_at}

-- what a filter keeps passes the test and was there
pub kept : {A : Type 0} (test : A → Bool) (xs : List A) (x : A) → Contains (filter test xs) x → (test x ≡ true) × Contains xs x
kept test [] x c = absurd (in_none x c)
kept test (y ∷ xs) x c = elim (cases_Bool (test y)) [
  | inl t ↦
      elim (in_cases y (filter test xs) x (subst (λ l. Contains l x) (cond-true (test y) (y ∷ filter test xs) (filter test xs) t) c)) [
        | inl e ↦ (ap test (sym e) ∙ t, subst (Contains (y ∷ xs)) e (head_in y xs))
        | inr m ↦ (let r = kept test xs x m in (r.0, later_in y xs x r.1))
      ]
  | inr f ↦ (let r = kept test xs x (subst (λ l. Contains l x) (cond-false (test y) (y ∷ filter test xs) (filter test xs) f) c) in (r.0, later_in y xs x r.1))
]

pub in_of_at : (X : Picture) (p : Point) → at X p ≡ true → IsTrue (in_box X.sides p)
in_of_at X p e = (and_parts (in_box X.sides p) _ e).0

sides_back : (sides : List ℕ) → sides_of (map pos sides) ≡ sides
sides_back [] = refl
sides_back (n ∷ sides) = ap (λ l. n ∷ l) (sides_back sides)

-- a point of the box leaves room for its neighbours
pub box_within : (lengths : Point) (p : Point) → AreSides (pos most_solid) lengths → IsTrue (in_box (sides_of lengths) p)
    → IsWithin (negsuc 1) (pos most_coordinate) p
box_within lengths p range inside k l =
    let w = box_point_within (pos most_solid) lengths p range (omega (arith, ints)) inside k l in
    (let a = w.0 in omega (arith, ints), w.1)

pub near_within : (X : Picture) (p : Point) → AreSides (pos most_solid) (map pos X.sides) → IsTrue (in_box X.sides p)
    → IsWithin (negsuc 1) (pos most_coordinate) p
near_within X p range inside = box_within (map pos X.sides) p range (subst (λ s. IsTrue (in_box s p)) (sym (sides_back X.sides)) inside)

-- an object point is listed
pub object_there : (X : Picture) (p : Point) → at X p ≡ true → Contains (object_points X) p
object_there X p e =
    let inside = in_of_at X p e in
    let there : Contains (box_points X.sides) p = (
      raster_number X.sides p,
      (let l = raster_below X.sides p inside in let n = length-box_points X.sides in omega arith),
      get_or-box_points X.sides (raster_number X.sides p) p (raster_below X.sides p inside) ∙ raster_point-raster_number X.sides p inside,
    ) in
    Contains-filter (at X) (box_points X.sides) p there e

module _ (X : Picture) (face : ℕ) where
  -- an exposed point is an object point that has background over the face
  pub exposed_yes : (p : Point) → at X p ≡ true → at X (moved p (sense_step (face_axis face) (face_sense face))) ≡ false → Contains (exposed_at X face) p
  exposed_yes p e f = Contains-filter (λ q. not (at X (moved q (sense_step (face_axis face) (face_sense face))))) (object_points X) p (object_there X p e)
      (ap not f)

  pub exposed_only : (p : Point) → Contains (exposed_at X face) p → (at X p ≡ true) × (at X (moved p (sense_step (face_axis face) (face_sense face))) ≡ false)
  exposed_only p c =
      let r = kept (λ q. not (at X (moved q (sense_step (face_axis face) (face_sense face))))) (object_points X) p c in
      let o = kept (at X) (box_points X.sides) p r.1 in
      (o.0, from_not (at X (moved p (sense_step (face_axis face) (face_sense face)))) r.0)
    where
      from_not : (b : Bool) → not b ≡ true → b ≡ false
      from_not true e = cc
      from_not false e = refl

  pub exposed_in : (p : Point) → Contains (exposed_at X face) p → IsTrue (in_box X.sides p)
  exposed_in p c = in_of_at X p (exposed_only p c).0
