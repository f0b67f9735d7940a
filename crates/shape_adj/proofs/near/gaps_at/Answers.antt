use Rattle.std.proofs.Common.{◌<◌, ap, arith, length, ◌∙◌}
use Rattle.std.proofs.lemmas.List.{length-map}
use Rattle.std.specs.Prelude.{nat_abs}
use Rattle.shape_terms.specs.Points.{sides_of}
use Rattle.shape_terms.specs.Adjacency.{near_steps, near_point}
use Rattle.shape_adj.specs.Gaps.{IsGap}
use Rattle.shape_adj.proofs.GapSteps.{near_gap, gaps_more}
use Rattle.shape_adj.proofs.near.gaps_at.Goals as goal

pub loop-k-preserved : goal.loop-k-preserved
loop-k-preserved g c =
    let n = g.P.Point.coords c.args.sides.now.lengths in
    let k = c.loop-k.k in
    let axes = length-map n nat_abs ∙ g.met.P.Point.axes c.args.sides.now.lengths in
    let short : k < length (near_steps (length (sides_of n))) =
    omega (arith, c.NEAR_COUNT-k-end.ensures, g.met.P.Pairing.near_total, ap (λ d. length (near_steps d)) axes) in
    let new = near_gap (sides_of n) k (omega (arith, c.args.sides.now.few)) short c.args.i c.near_number.result c.requires.point
    (c.requires.inner k (omega (arith, c.NEAR_COUNT-k-end.ensures))) c.near_number.ensures in
    let old = c.loop-k.invariant in
    gaps_more (IsGap (sides_of n) near_point) c.loop-k.gaps.items _ _ k old.0 c.in_ok-push.ensures.items old.1 new
