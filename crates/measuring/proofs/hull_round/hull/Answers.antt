use Rattle.std.proofs.Common.{◌≡◌, ◌-◌, true, false, List, ◌++◌, length, take, drop, reverse, ap, sym, subst, ◌∙◌}
use Rattle.std.proofs.lemmas.List.{length-map}
use Rattle.shape_space.specs.declared.point.P2.{P2}
use Rattle.measure_terms.specs.Hulls.{Corner, IsHull}
use Rattle.measuring.specs.Corners.{corner, corners, IsOf}
use Rattle.measuring.specs.Chains.{IsSide}
use Rattle.measuring.proofs.Reading.{reversed, joined}
use Rattle.measuring.proofs.Rounds.{hull}
use Rattle.measuring.proofs.hull_round.hull.Goals as goal

pub returns-clause-hull : goal.returns-clause-hull
returns-clause-hull c =
    let points = c.args.points.now in
    let out = c.in_ok-round.round.items in
    let back = c.in_ok-back.back.items in
    let slice : c.as_slice.result.now ≡ reverse points = c.as_slice.ensures.value ∙ c.in_ok-turned.ensures in
    let turned : corners c.as_slice.result.now ≡ reverse (corners points) = ap corners slice ∙ sym (reversed points) in
    let side = subst (λ n. IsSide true (corners points) n (corners out)) (sym (length-map points corner)) (c.in_ok-round.ensures.side true) in
    let other' = subst (λ n. IsSide false (corners c.as_slice.result.now) n (corners back)) (sym (length-map c.as_slice.result.now corner))
    (c.in_ok-back.ensures.side false) in
    let other = subst (λ (l : List Corner). IsSide false l (length l) (corners back)) turned other' in
    let is : c.join.new.round.items ≡ out ++ take (length back - 2) (drop 1 back) = c.in_ok-join.ensures
    ∙ ap (λ (l : List P2). out ++ take (length l - 2) (drop 1 l)) c.as_slice-2.ensures.value in
    subst (IsHull (IsOf (corners points))) (sym (ap corners is ∙ joined out back))
    (hull (corners points) (corners out) (corners back) c.requires.order side other)
