use Rattle.std.proofs.Common.{List, ℕ, ap, arith}
use Rattle.shape_terms.specs.Points.{box_count}
use Rattle.shape_terms.specs.FramedBox.{framed_sides}
use Rattle.shape_adj.proofs.PictureRows.{some_framed}
use Rattle.shape_adj.proofs.places.Background.of.Goals as goal

pub invariant_of-result-clause-axes : goal.invariant_of-result-clause-axes
invariant_of-result-clause-axes g c = omega (arith, c.sides-sides.ensures.picture.axes, g.met.P.Point.two_or_three)

pub invariant_of-result-clause-some : goal.invariant_of-result-clause-some
invariant_of-result-clause-some g c = some_framed c.args.grid.now.sides

pub invariant_of-result-clause-few : goal.invariant_of-result-clause-few
invariant_of-result-clause-few g c =
    let e = ap (λ (s : List ℕ). box_count (framed_sides s)) c.sides-sides.ensures.value in
    omega (arith, e, c.framed_count-places.ensures.value, c.framed_count-places.ensures.few)
