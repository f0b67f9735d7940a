use Rattle.std.proofs.Common.{map, rules, FitsSigned, w32}
use mir.Syntax.{w128}
use Rattle.std.proofs.lemmas.Int.{to_z-of_z}
use Rattle.shape_refute.specs.Weights.{refutation_of}
use Rattle.shape_refute.proofs.Steps.{meet_is}
use Rattle.shape_refute.proofs.refutation.meets_on.Goals as goal

pub returns : goal.returns
returns g c =
    let fu : FitsSigned w32 c.unit_coordinate.result = search rules in
    let fl : FitsSigned w128 c.points_sum-low.result = search rules in
    let fh : FitsSigned w128 c.points_sum-high.result = search rules in
    let ft : FitsSigned w128 c.steps_sum.result = search rules in
    let fs : FitsSigned w128 c.sum.result = search rules in
    let h = simp to_z-of_z at c.are_equal.ensures in
    let es = simp to_z-of_z at c.sum.ensures.value in
    let eh = simp to_z-of_z at c.points_sum-high.ensures.value in
    meet_is c.args.axis c.args.k (map g.P.Point.coords c.args.points.now) (refutation_of c.args.r.now) c.are_equal.result c.points_sum-low.result
    c.steps_sum.result c.sum.result c.points_sum-high.result c.unit_coordinate.result
    h es c.points_sum-low.ensures.value c.steps_sum.ensures.value c.unit_coordinate.ensures.value eh
