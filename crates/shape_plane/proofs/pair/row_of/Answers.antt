use Rattle.std.proofs.Common.{rules, FitsSigned, ◌∙◌}
use Rattle.std.specs.Int.{w64}
use Rattle.std.proofs.lemmas.Int.{to_z-of_z}
use Rattle.shape_plane.proofs.Gaps.{no_gap_at, small_row}
use Rattle.shape_plane.proofs.pair.row_of.Goals as goal

pub returns-clause-small : goal.returns-clause-small
returns-clause-small g c =
    let fx : FitsSigned w64 c.gap-x.result = search rules in
    let fy : FitsSigned w64 c.gap-y.result = search rules in
    let fz : FitsSigned w64 c.gap-z.result = search rules in
    let fl : FitsSigned w64 c.less_one.result = search rules in
    let l = simp to_z-of_z at c.less_one.ensures in
    simp to_z-of_z (small_row g.P.Point.DIM g.P.Point.MAX_SIDE c.gap-x.result c.gap-y.result c.gap-z.result c.less_one.result _ g.met.P.Point.two_or_three
    g.met.P.Point.flat_side g.met.P.Point.solid_side
    (λ e. c.gap-y.ensures.value ∙ no_gap_at g.P.Point.coords g.P.Point.DIM c.args.axis c.second_axis.result c.args.points.now c.args.pair g.met.P.Point.axes
    c.requires.pair e c.requires.axis c.second_axis.ensures.value)
    c.gap-x.ensures.small c.gap-y.ensures.small c.gap-z.ensures.small l)
