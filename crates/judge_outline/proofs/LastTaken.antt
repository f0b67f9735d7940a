-- The points that were taken last: a point that is Near one of them is Near one of the patch.
-- Laws over lists of points.
use Rattle.std.proofs.Common.{◌≡◌, ℕ, ◌+◌, ◌-◌, ◌≤◌, ap, ◌∙◌, arith, List, drop, Some}
use Rattle.std.specs.Prelude.{slice_get}
use Rattle.shape_terms.specs.Points.{Point}
use Rattle.shape_terms.specs.Adjacency.{Near}
use Rattle.shape_terms.proofs.Places.{of_place, place_drop}
use Rattle.judge_outline.specs.Exposure.{IsNearTo}

-- a point that is Near one that was taken from a place on
pub near_taken : (taken : List Point) (start i : ℕ) (p q : Point) → start ≤ i → slice_get taken i ≡ Some q → Near p q → IsNearTo (drop start taken) p
near_taken taken start i p q l there near =
    let same : start + (i - start) ≡ i = omega arith in
    (q, of_place (drop start taken) (i - start) q (place_drop start taken (i - start) ∙ ap (slice_get taken) same ∙ there), near)
