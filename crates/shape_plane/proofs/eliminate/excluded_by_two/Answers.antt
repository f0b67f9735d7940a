use Rattle.std.proofs.Common.{rules, FitsSigned}
use Rattle.std.specs.Int.{w64}
use Rattle.std.proofs.lemmas.Int.{to_z-of_z}
use Rattle.shape_terms.specs.Limits.{plane_row}
use Rattle.shape_plane.proofs.Solving.{two_exclude}
use Rattle.shape_plane.proofs.eliminate.excluded_by_two.Goals as goal

pub returns : goal.returns
returns c =
    let f1 : FitsSigned w64 c.args.r.upper.bound.x = search rules in
    let f2 : FitsSigned w64 c.turned.result = search rules in
    let f3 : FitsSigned w64 c.overlap.result = search rules in
    simp to_z-of_z (two_exclude c.args.rows.now c.args.r c.turned.result c.overlap.result c.requires.system c.requires.range c.requires.full c.turned.ensures
    c.overlap.ensures.value
    (c.overlap.ensures.size plane_row plane_row c.requires.range.lower.z_small c.requires.range.upper.x_small c.requires.range.upper.z_small
    c.requires.range.lower.x_small))
