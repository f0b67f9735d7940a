-- A contour that begins with an upper side has the corner of the frame over its cracks' component, and one that begins with a lower side has not.
-- The corner is even; were another contour between it and the component, the component would be even for this one.
use Rattle.std.proofs.Common.{◌≡◌, inl, inr, Bool, true, false, refl, sym, ◌∙◌, ap, subst, List, length}
use Rattle.std.specs.Prelude.{Contains}
use Rattle.std.proofs.lemmas.Bool.{cases_Bool, both_ways}
use Rattle.shape_terms.specs.Points.{Point}
use Rattle.shape_terms.specs.Adjacency.{Side}
use Rattle.shape_terms.specs.Pictures.{Picture}
use Rattle.shape_terms.specs.Contours.{Crack, IsCrack, AreCycles, first_of_cycle}
use Rattle.shape_terms.specs.Parts.{Connected, Object}
use Rattle.shape_terms.proofs.AdjacencySymmetric.{side_sym}
use Rattle.shape_terms.proofs.Paths.{joined_to, turned_back}
use Rattle.shape_terms.proofs.Successor.{Place, point, step, held, object_axes, Placed, placed}
use Rattle.measure_terms.proofs.Parity.{differ}
use Rattle.measure_terms.specs.ComponentContours.{IsComponent, Complement, over}
use Rattle.measure_terms.specs.Holes.{corner}
use Rattle.measure_terms.proofs.OverSteps.{Close, over_crack}
use Rattle.measure_terms.proofs.Corner.{turned_at}
use Rattle.measure_terms.proofs.Parted.{in_component, in_complement}
use Rattle.measure_terms.proofs.Around.{HasAround}
use Rattle.measure_terms.proofs.Reaching.{IsWide}
use Rattle.measure_terms.proofs.Planes.{place_of, path_of_places, close_path}
use Rattle.measure_terms.proofs.Cycles.{has, has_it, it_has}
use Rattle.measure_terms.proofs.OneContour.{none_left, own, IsContour, cycle_of, is_cycle, is_crack, first_in, own_crack, set, set_closed, set_own}
use Rattle.measure_terms.proofs.FirstCrack.{odd, outer_even, hole_odd}
use Rattle.measure_terms.proofs.ContoursBound.{over_placed, along, each}

-- the four values of a contour's parity at two cracks, of which the first is in it and the second is not
clash : (a b c d : Bool) → b ≡ differ a true → d ≡ differ c false → a ≡ c → b ≡ false → d ≡ false → ⊥
clash false b c d h k e f g = both_ways b f h
clash true b true d h k e f g = both_ways d g k
clash true b false d h k e f g = both_ways true e refl

module _ (F : Point → Type 0) (flat : (p : Point) → F p → length p ≡ 2) (X : Picture) (axes : length X.sides ≡ 2)
    (around : HasAround (λ (p : Place). F (point p)) (held X)) (wide : IsWide (λ (p : Place). F (point p)))
    (K : Point → Bool) (part : IsComponent X K) (cycles : List (List Crack)) (are : AreCycles X cycles) where
  module _ (xs : List Crack) (i : IsContour X axes K part cycles are xs) where
    abbrev at_place : Place → Bool
    at_place p = odd X axes K part cycles are xs i p

    -- the parity is the same all over a component of the complement
    same_over : (p q : Point) → Connected Side (Complement F K) p q → at_place (place_of p) ≡ at_place (place_of q)
    same_over p q c =
        in_complement (λ (p : Place). F (point p)) (held X) (own X axes K part) (set X axes K part cycles are xs i) (none_left X)
        (set_closed X axes K part cycles are xs i) (set_own X axes K part cycles are xs i)
        (path_of_places (Complement F K) (λ p y. flat p y.0) c)

    -- and all over the component
    same_own : (c d : Crack) (a : Placed X c) (b : Placed X d) → K c.pixel ≡ true → K d.pixel ≡ true → at_place a.place ≡ at_place b.place
    same_own c d a b m n =
        let q = close_path (Object X) (λ r o. object_axes X r o ∙ axes) (part.joined c.pixel d.pixel m n) in
        let near = subst (λ (r : Place). Connected Close (λ (r : Place). held X r ≡ true) r b.place) (ap (λ (e : Crack). place_of e.pixel) a.is)
        (subst (λ (r : Place). Connected Close (λ (r : Place). held X r ≡ true) (place_of c.pixel) r) (ap (λ (e : Crack). place_of e.pixel) b.is) q) in
        in_component (λ (p : Place). F (point p)) (held X) (own X axes K part) (set X axes K part cycles are xs i) (none_left X)
        (set_closed X axes K part cycles are xs i) (set_own X axes K part cycles are xs i) near

    -- over a crack it changes where the contour has the crack
    over_it : (c : Crack) (a : Placed X c) → at_place (place_of (over c)) ≡ differ (at_place a.place) (has xs c)
    over_it c a =
        subst (λ (p : Point). odd X axes K part cycles are xs i (place_of p) ≡ differ (odd X axes K part cycles are xs i a.place) (has xs c))
        (sym (over_placed F flat X axes around wide K part cycles are c a))
        (over_crack (held X) (set X axes K part cycles are xs i) (none_left X)
        (turned_at (held X) (set X axes K part cycles are xs i) (set_closed X axes K part cycles are xs i)) a.place c.side a.edge
        ∙ ap (λ (e : Crack). differ (odd X axes K part cycles are xs i a.place) (has xs e)) (sym a.is))

    first_crack : IsCrack X (first_of_cycle xs)
    first_crack = is_crack X axes K part cycles are xs (cycle_of X axes K part cycles are xs i) (first_of_cycle xs)
        (first_in X axes K part cycles are xs (is_cycle X axes K part cycles are xs i))

    begins : Placed X (first_of_cycle xs)
    begins = placed X axes (first_of_cycle xs) first_crack

    begins_in : Contains xs (first_of_cycle xs)
    begins_in = first_in X axes K part cycles are xs (is_cycle X axes K part cycles are xs i)

    over_first : at_place (place_of (over (first_of_cycle xs))) ≡ at_place (step (first_of_cycle xs).side begins.place)
    over_first = ap (λ (p : Point). at_place (place_of p)) (over_placed F flat X axes around wide K part cycles are (first_of_cycle xs) begins)

    -- a contour that begins with a lower side does not have the corner over it
    pub low_apart : (first_of_cycle xs).side ≡ 2 → Connected Side (Complement F K) (over (first_of_cycle xs)) corner → ⊥
    low_apart e c =
        both_ways (at_place (place_of (over (first_of_cycle xs)))) (same_over (over (first_of_cycle xs)) corner c)
        (over_first ∙ hole_odd X axes K part cycles are xs i begins e)

    -- one that begins with an upper side has
    pub high_joined : F part.some.0 → Complement F K corner → (first_of_cycle xs).side ≡ 0 → Connected Side (Complement F K) (over (first_of_cycle xs)) corner
    high_joined seed far e =
        let t = each F flat X axes around wide K part cycles are seed corner far in
        let c = t.2.0 in
        let back = turned_back side_sym t.2.2 in
        elim (cases_Bool (has xs c)) [
          | inl h ↦ joined_to (along F flat X axes around wide K part cycles are xs i (first_of_cycle xs) c begins_in (it_has xs c h)) back
          | inr n ↦ (let k = is_crack X axes K part cycles are t.0 (cycle_of X axes K part cycles are t.0 t.1) c t.2.1 in
              let b = placed X axes c k in
              let o = own_crack X axes K part cycles are t.0 t.1 c t.2.1 in
              let p = own_crack X axes K part cycles are xs i (first_of_cycle xs) begins_in in
              absurd (clash (at_place begins.place) (at_place (place_of (over (first_of_cycle xs)))) (at_place b.place) (at_place (place_of (over c)))
              (over_it (first_of_cycle xs) begins ∙ ap (differ (at_place begins.place)) (has_it xs (first_of_cycle xs) begins_in))
              (over_it c b ∙ ap (differ (at_place b.place)) n)
              (same_own (first_of_cycle xs) c begins b p.1 o.1)
              (over_first ∙ outer_even X axes K part cycles are xs i begins e)
              (same_over (over c) corner back)))
        ]
