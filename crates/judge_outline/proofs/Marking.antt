-- The marks of the points of a patch: none, one more, and taken away one after the other.
-- Laws over pictures and lists of points.
use Rattle.std.proofs.Common.{◌≡◌, ◌≢◌, ℕ, zero, suc, ◌+◌, ◌≤◌, Bool, true, false, ap, sym, ◌∙◌, subst, arith, inl, inr, List, [], ◌∷◌, ◌++◌, length, drop}
use Rattle.std.proofs.Common.{Some}
use Rattle.std.specs.Prelude.{◌↔◌, ◌⊎◌, IsTrue, slice_get, Contains}
use Rattle.std.proofs.lemmas.Bool.{and_parts}
use Rattle.std.proofs.lemmas.List.{get_or-replicate, drop_all, drop-append-le}
use Rattle.std.proofs.lemmas.List.Elements.{Contains-push, Contains-push_cases, Contains-append_left}
use native.Mathlib.Decide.{ℕ_discrete}
use Rattle.shape_terms.specs.Points.{Point, in_box, box_count, raster_number, raster_point}
use Rattle.shape_terms.specs.Pictures.{Picture, at, with_value, blank}
use Rattle.shape_terms.proofs.Boxes.{raster_below, raster_point-raster_number}
use Rattle.shape_terms.proofs.SameCycles.{in_none}
use Rattle.shape_terms.proofs.OneValue.{value_there, value_gone, value_elsewhere}
use Rattle.shape_terms.proofs.Places.{place_of, of_place, place_drop}
use Rattle.judge_outline.specs.Exposure.{AreMarked, IsNearTo, IsNearObject}

-- a picture without object points marks none
pub marked_none : (sides : List ℕ) → AreMarked [] (blank sides)
marked_none sides = record {
  each = λ q. (
    λ a. absurd (
        let both = and_parts (in_box sides q) _ a in
        let f : false ≡ true = sym (get_or-replicate (box_count sides) (raster_number sides q) false false (raster_below sides q both.0)) ∙ both.1 in
        cc),
    λ c. absurd (in_none q c),
  );
}

-- points of one number are one
pub same_number : (sides : List ℕ) (p q : Point) → IsTrue (in_box sides p) → IsTrue (in_box sides q) → raster_number sides p ≡ raster_number sides q → p ≡ q
same_number sides p q h k e = sym (raster_point-raster_number sides p h) ∙ ap (raster_point sides) e ∙ raster_point-raster_number sides q k

-- a picture with one more object point
pub with_one : (R : Picture) (p : Point) → length R.values ≡ box_count R.sides → IsTrue (in_box R.sides p) → (q : Point)
    → IsTrue (at (with_value R p true) q) ↔ (IsTrue (at R q) ⊎ (p ≡ q))
with_one R p filled inside q = (
  λ a. elim (ℕ_discrete (raster_number R.sides q) (raster_number R.sides p)) [
    | yes e ↦ inr (same_number R.sides p q inside (and_parts (in_box R.sides q) _ a).0 (sym e))
    | no n ↦ inl (sym (value_elsewhere R p q true inside (λ s. n (ap (raster_number R.sides) s))) ∙ a)
  ],
  λ c. elim c [
    | inl a ↦ elim (ℕ_discrete (raster_number R.sides q) (raster_number R.sides p)) [
      | yes e ↦ there (same_number R.sides p q inside (and_parts (in_box R.sides q) _ a).0 (sym e))
      | no n ↦ value_elsewhere R p q true inside (λ s. n (ap (raster_number R.sides) s)) ∙ a
    ]
    | inr s ↦ there s
  ],
)
  where
    there : p ≡ q → at (with_value R p true) q ≡ true
    there s = ap (at (with_value R p true)) (sym s) ∙ value_there R p true filled inside

-- one more
pub marked_more : (R : Picture) (p : Point) → length R.values ≡ box_count R.sides → IsTrue (in_box R.sides p) → (points : List Point) → AreMarked points R
    → AreMarked (points ++ p ∷ []) (with_value R p true)
marked_more R p filled inside points h = record {
  each = λ q. (
    λ a. elim ((with_one R p filled inside q).0 a)
        [ inl o ↦ Contains-append_left points (p ∷ []) q ((h.each q).0 o) | inr s ↦ subst (Contains (points ++ p ∷ [])) s (Contains-push points p) ],
    λ c. (with_one R p filled inside q).1 (elim (Contains-push_cases points p q c) [ inl o ↦ inl ((h.each q).1 o) | inr s ↦ inr s ]),
  );
}

-- at most the points from a place on are marked
abbrev pub AreMarkedFrom : List Point → ℕ → Picture → Type 0
AreMarkedFrom points i R = (q : Point) → IsTrue (at R q) → Contains (drop i points) q

pub marked_next : (R : Picture) (points : List Point) (i : ℕ) (p : Point) → slice_get points i ≡ Some p → IsTrue (in_box R.sides p) → AreMarkedFrom points i R
    → AreMarkedFrom points (i + 1) (with_value R p false)
marked_next R points i p there inside h q a =
    let apart : q ≢ p = λ s. (let f : true ≡ false = sym a ∙ ap (at (with_value R p false)) s ∙ value_gone R p in cc) in
    let k = place_of (drop i points) q (h q (sym (value_elsewhere R p q false inside apart) ∙ a)) in
    later k.0 k.1 apart
  where
    later : (k : ℕ) → slice_get (drop i points) k ≡ Some q → q ≢ p → Contains (drop (i + 1) points) q
    later zero e n = absurd (n (
        let f : Some p ≡ Some q = sym there ∙ ap (slice_get points) (let s : i ≡ i + 0 = omega arith in s) ∙ sym (place_drop i points 0) ∙ e in
        let g : q ≡ p = cc in
        g))
    later (suc k) e n = of_place (drop (i + 1) points) k q
        (place_drop (i + 1) points k ∙ ap (slice_get points) (let s : i + 1 + k ≡ i + suc k = omega arith in s) ∙ sym (place_drop i points (suc k)) ∙ e)

pub marked_end : (R : Picture) (points : List Point) (i : ℕ) → length points ≤ i → AreMarkedFrom points i R → AreMarked [] R
marked_end R points i l h = record {
  each = λ q. (λ a. subst (λ xs. Contains xs q) (drop_all i points l) (h q a), λ c. absurd (in_none q c));
}

-- the marks of a patch that is begun, and of one that got one more point
pub marked_begun : (R : Picture) (taken : List Point) (n : ℕ) → n ≡ length taken → AreMarked [] R → AreMarked (drop n taken) R
marked_begun R taken n e h = subst (λ ps. AreMarked ps R) (sym (drop_all n taken (omega arith))) h

pub marked_taken : (R : Picture) (taken : List Point) (start : ℕ) (p : Point) → start ≤ length taken → AreMarked (drop start taken ++ p ∷ []) R
    → AreMarked (drop start (taken ++ p ∷ [])) R
marked_taken R taken start p l h = subst (λ ps. AreMarked ps R) (sym (drop-append-le start taken (p ∷ []) l)) h

-- whether a point is near a marked point tells whether it is near one of the list
pub near_test : (R : Picture) (points : List Point) (p : Point) (b : Bool) → AreMarked points R → (IsTrue b ↔ IsNearObject R p) → IsTrue b ↔ IsNearTo points p
near_test R points p b h t = (
  λ e. (let r = t.0 e in (r.0, (h.each r.0).0 r.1, r.2)),
  λ (q, c, n). t.1 (q, (h.each q).1 c, n),
)
