-- The exposed points of a face as a picture: all of them, less one that is taken, and those that touch a patch.
-- Laws over pictures and points.
use Rattle.std.proofs.Common.{◌≡◌, ◌≢◌, ℕ, ◌%◌, ◌<◌, Bool, true, false, ◌&&◌, cond, ap, sym, ◌∙◌, refl, subst, arith, inl, inr, List, [], ◌∷◌, ◌++◌}
use Rattle.std.specs.Prelude.{◌==◌, if◌then◌else◌, IsTrue, not, filter, slice_set, Contains}
use Rattle.std.proofs.lemmas.Bool.{cond-true, cond-false, cases_Bool}
use Rattle.std.proofs.lemmas.List.Elements.{Contains-push, Contains-push_cases, Contains-append_left}
use native.Mathlib.Decide.{ℕ_discrete}
use Rattle.shape_terms.specs.Points.{Point, in_box, box_count, box_points, raster_number, raster_point}
use Rattle.shape_terms.specs.Adjacency.{moved}
use Rattle.shape_terms.specs.Pictures.{Picture, at, with_value, object_points}
use Rattle.shape_terms.proofs.Boxes.{raster_below, raster_number-raster_point, raster_point-raster_number}
use Rattle.shape_terms.proofs.SameCycles.{in_none}
use Rattle.shape_terms.proofs.OneValue.{value_gone, value_elsewhere}
use Rattle.shape_terms.specs.Patches.{Sense, sense_step}
use Rattle.shape_adj.specs.FacePoints.{sense_up, exposed_at as exposed_value}
use Rattle.report_terms.specs.FaceLines.{IsTouching}
use Rattle.report_terms.specs.FaceFacts.{face_axis, face_sense}
use Rattle.judge_outline.specs.Exposure.{exposed_at, AreLeft, AreRound, AreTouching, IsNearTo}
use Rattle.judge_outline.proofs.Exposing.{kept, object_there}

-- ---- point by point

pub numbered : (E : Picture) (n : ℕ) (b : Bool) → n < box_count E.sides
    → record { sides = E.sides; values = slice_set E.values n b } ≡ with_value E (raster_point E.sides n) b
numbered E n b l = (let e = sym (raster_number-raster_point E.sides n l) in λ i. record { sides = E.sides; values = slice_set E.values (e i) b })

-- ---- as a list

-- a filter by two tests, one after the other
filter_twice : (f g h : Point → Bool) (xs : List Point) → ((x : Point) → f x ≡ (h x && g x)) → filter f xs ≡ filter g (filter h xs)
filter_twice f g h [] e = refl
filter_twice f g h (x ∷ xs) e = elim (cases_Bool (h x)) [
  | inl t ↦
      let rest = filter_twice f g h xs e in
      let here : f x ≡ g x = e x ∙ ap (λ b. b && g x) t in
      ap (λ b. cond b (x ∷ filter f xs) (filter f xs)) here ∙ ap (λ l. cond (g x) (x ∷ l) l) rest
      ∙ ap (filter g) (sym (cond-true (h x) (x ∷ filter h xs) (filter h xs) t))
  | inr t ↦
      let rest = filter_twice f g h xs e in
      let here : f x ≡ false = e x ∙ ap (λ b. b && g x) t in
      cond-false (f x) (x ∷ filter f xs) (filter f xs) here ∙ rest ∙ ap (filter g) (sym (cond-false (h x) (x ∷ filter h xs) (filter h xs) t))
]

-- the object points of a picture that has exactly the exposed ones
pub exposed_all : (X : Picture) (face : ℕ) (E : Picture) → E.sides ≡ X.sides
    → ((q : Point) → at E q ≡ exposed_value X (face_axis face) (face_sense face) q) → object_points E ≡ exposed_at X face
exposed_all X face E same each = ap (λ s. filter (at E) (box_points s)) same
    ∙ filter_twice (at E) (λ q. not (at X (moved q (sense_step (face_axis face) (face_sense face))))) (at X) (box_points X.sides) each

-- a face with an odd number is seen towards greater coordinates
pub face_up : (f : ℕ) → sense_up (f % 2 == 1) ≡ face_sense f
face_up f = elim (ℕ_discrete (f % 2) 0) [
  | yes e ↦ ap (λ r. sense_up (r == 1)) e ∙ sym (ap (λ r. if r == 0 then Sense.Down else Sense.Upward) e)
  | no n ↦ (let e : f % 2 ≡ 1 = omega arith in ap (λ r. sense_up (r == 1)) e ∙ sym (ap (λ r. if r == 0 then Sense.Down else Sense.Upward) e))
]

-- ---- those that are left

-- while none is taken, all exposed points are left
pub left_all : (exposed : List Point) (E : Picture) → object_points E ≡ exposed → AreLeft exposed [] E
left_all exposed E e = record {
  each = λ q. (
    λ a. record { there = subst (λ l. Contains l q) e (object_there E q a); left = in_none q },
    λ t. (kept (at E) (box_points E.sides) q (subst (λ l. Contains l q) (sym e) t.there)).0,
  );
}

-- and one less where one more is taken
pub left_less : (exposed taken : List Point) (L : Picture) (p : Point) → AreLeft exposed taken L → IsTrue (in_box L.sides p)
    → AreLeft exposed (taken ++ p ∷ []) (with_value L p false)
left_less exposed taken L p h inside = record {
  each = λ q. (
    λ a.
        let apart : q ≢ p = λ s. (let f : true ≡ false = sym a ∙ ap (at (with_value L p false)) s ∙ value_gone L p in cc) in
        let old = (h.each q).0 (sym (value_elsewhere L p q false inside apart) ∙ a) in
        record { there = old.there; left = λ c. elim (Contains-push_cases taken p q c) [ inl o ↦ old.left o | inr s ↦ apart (sym s) ] },
    λ t.
        let apart : q ≢ p = λ s. t.left (subst (Contains (taken ++ p ∷ [])) (sym s) (Contains-push taken p)) in
        value_elsewhere L p q false inside apart ∙ (h.each q).1 (record { there = t.there; left = λ c. t.left (Contains-append_left taken (p ∷ []) q c) }),
  );
}

-- those near a patch touch it
pub round_touches : (X : Picture) (exposed taken patch : List Point) (L : Picture) (numbers : List ℕ) → AreLeft exposed taken L → L.sides ≡ X.sides
    → ((q : Point) → Contains exposed q → IsTrue (in_box X.sides q)) → AreRound L patch numbers → AreTouching X.sides exposed taken patch numbers
round_touches X exposed taken patch L numbers h same inside r = record {
  rising = r.rising;
  below = λ n c. (let b = r.below n c in omega (arith, b, ap box_count same));
  each = λ q t.
      let l = raster_below X.sides q (inside q t.there) in
      let back : raster_point L.sides (raster_number X.sides q) ≡ q = ap (λ s. raster_point s (raster_number X.sides q)) same
      ∙ raster_point-raster_number X.sides q (inside q t.there) in
      (r.each (raster_number X.sides q) (omega (arith, l, ap box_count same))).1
      (ap (at L) back ∙ (h.each q).1 (record { there = t.there; left = t.left }), subst (λ z. IsNearTo patch z) (sym back) t.near);
  only = λ n c.
      let b = r.below n c in
      let o = (r.each n b).0 c in
      let left = (h.each (raster_point L.sides n)).0 o.0 in
      subst (λ s. IsTouching exposed taken patch (raster_point s n)) same (record { there = left.there; left = left.left; near = o.1 });
}
