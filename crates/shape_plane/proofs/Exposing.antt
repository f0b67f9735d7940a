-- The exposed points of a face, as a list and as a picture.
-- How they are found stands elsewhere.
use Rattle.std.proofs.Common.{◌≡◌, ℕ, zero, suc, ◌<◌, Bool, true, false, not, ◌&&◌, cond, List, [], ◌∷◌, length, refl, ap, sym, ◌∙◌, arith}
use Rattle.std.specs.Prelude.{◌≢◌, IsTrue, AllPairs, Contains, filter, ◌↔◌}
use Rattle.std.proofs.lemmas.Bool.{and_parts}
use Rattle.std.proofs.lemmas.List.Kept.{AllPairs-filter}
use Rattle.shape_terms.specs.Points.{Point, in_box, box_count, box_points, raster_number, raster_point}
use Rattle.shape_terms.specs.Adjacency.{moved}
use Rattle.shape_terms.specs.Pictures.{Picture, at, object_points}
use Rattle.shape_terms.proofs.Boxes.{raster_below, raster_number-raster_point, raster_point-raster_number}
use Rattle.shape_terms.proofs.BoxLists.{length-box_points, get_or-box_points}
use Rattle.shape_terms.proofs.Members.{Contains-filter, Contains-later}
use Rattle.shape_terms.specs.Patches.{Sense, sense_step, exposed_points}
use Rattle.shape_terms.proofs.PointLists.{no_more}
use Rattle.shape_plane.specs.Faces.{IsFace}
use Rattle.shape_plane.proofs.Spreading.{in_sides}

and_true : (a b : Bool) → b ≡ true → (a && b) ≡ a
and_true true b e = e
and_true false b e = refl

-- ---- the same as a list

kept : {A : Type 0} (p : A → Bool) (xs : List A) (x : A) → Contains (filter p xs) x → IsTrue (p x) × Contains xs x
kept p [] x c = absurd (let l = c.1 in omega (arith, l))
kept {A} p (y ∷ xs) x c = by (kept p xs x) (p y) refl c
  where
    more : IsTrue (p x) × Contains xs x → IsTrue (p x) × Contains (y ∷ xs) x
    more h = (h.0, Contains-later y xs x h.1)

    by : (Contains (filter p xs) x → IsTrue (p x) × Contains xs x) → (b : Bool) → p y ≡ b → Contains (cond b (y ∷ filter p xs) (filter p xs)) x
        → IsTrue (p x) × Contains (y ∷ xs) x
    by r true e (zero, h, f) = (ap p (sym f) ∙ e, (0, omega arith, f))
    by r true e (suc k, h, f) = more (r (k, omega arith, f))
    by r false e m = more (r m)

box_has : (sides : List ℕ) (q : Point) → IsTrue (in_box sides q) → Contains (box_points sides) q
box_has sides q b = (
  raster_number sides q,
  (let l = length-box_points sides in let r = raster_below sides q b in omega (arith, l, r)),
  get_or-box_points sides (raster_number sides q) q (raster_below sides q b) ∙ raster_point-raster_number sides q b,
)

-- ---- the object points of a picture, as a list

pub object_there : (X : Picture) (q : Point) → IsTrue (at X q) → Contains (object_points X) q
object_there X q a = Contains-filter (at X) (box_points X.sides) q (box_has X.sides q (in_sides X q a)) a

pub object_only : (X : Picture) (q : Point) → Contains (object_points X) q → IsTrue (at X q)
object_only X q c = (kept (at X) (box_points X.sides) q c).0

-- each point of a box once
box_distinct : (sides : List ℕ) → AllPairs (λ p q. p ≢ q) (box_points sides)
box_distinct sides i j d l m e =
    let b : j < box_count sides = omega (arith, m, length-box_points sides) in
    let a : i < box_count sides = omega (arith, l, b) in
    let f : raster_point sides i ≡ raster_point sides j = sym (get_or-box_points sides i d a) ∙ (e ∙ get_or-box_points sides j d b) in
    let n : i ≡ j = sym (raster_number-raster_point sides i a) ∙ (ap (raster_number sides) f ∙ raster_number-raster_point sides j b) in
    omega (arith, l, n)

pub objects_distinct : (X : Picture) → AllPairs (λ p q. p ≢ q) (object_points X)
objects_distinct X = AllPairs-filter (λ p q. p ≢ q) (at X) (box_points X.sides) (box_distinct X.sides)

-- ---- the exposed points

pub exposed_distinct : (X : Picture) (t : ℕ) (sense : Sense) → AllPairs (λ p q. p ≢ q) (exposed_points X t sense)
exposed_distinct X t sense = AllPairs-filter (λ p q. p ≢ q) _ (object_points X) (objects_distinct X)

pub face_points : (X : Picture) (t : ℕ) (sense : Sense) (L : Picture) → IsFace X t sense L → (q : Point)
    → IsTrue (at L q) ↔ Contains (exposed_points X t sense) q
face_points X t sense L h q = (
  λ a. (let b = and_parts (at X q) (not (at X (moved q (sense_step t sense)))) (sym (h.each q) ∙ a) in
      Contains-filter (λ p. not (at X (moved p (sense_step t sense)))) (object_points X) q
      (Contains-filter (at X) (box_points X.sides) q (box_has X.sides q (in_sides X q b.0)) b.0) b.1),
  λ c. (let a = kept (λ p. not (at X (moved p (sense_step t sense)))) (object_points X) q c in
      let b = kept (at X) (box_points X.sides) q a.1 in
      h.each q ∙ (and_true (at X q) (not (at X (moved q (sense_step t sense)))) a.0 ∙ b.0)),
)

-- as many points are there as are exposed
pub face_count : (X : Picture) (t : ℕ) (sense : Sense) (L : Picture) → IsFace X t sense L → length (object_points L) ≡ length (exposed_points X t sense)
face_count X t sense L h =
    let a = no_more (object_points L) (exposed_points X t sense) (objects_distinct L) (λ q c. (face_points X t sense L h q).0 (object_only L q c)) in
    let b = no_more (exposed_points X t sense) (object_points L) (exposed_distinct X t sense) (λ q c. object_there L q ((face_points X t sense L h q).1 c)) in
    omega (arith, a, b)
