use Rattle.std.proofs.Common.{refl, rules, FitsSigned}
use Rattle.std.specs.Int.{w64}
use Rattle.std.proofs.lemmas.Int.{to_z-of_z}
use Rattle.shape_line.proofs.FrameLines.{frame_line}
use Rattle.shape_line.proofs.frame.in_plane.Goals as goal

pub returns : goal.returns
returns c =
    let f1 = c.ranges.sense in
    let f2 = c.ranges.a in
    let f3 = c.ranges.b in
    let f4 = c.ranges.mu in
    let f5 : FitsSigned w64 c.signed.result = search rules in
    let v = simp to_z-of_z at c.signed.ensures.value in
    let s = simp to_z-of_z at c.signed.ensures.small in
    let e = simp to_z-of_z at c.coefficients.ensures in
    frame_line c.args.axis c.args.sense c.args.a c.args.b c.args.mu c.signed.result _ c.requires.axis c.requires.sense c.requires.a_small c.requires.b_small
    c.requires.mu_small v s refl e (to_z-of_z _ c.args.mu f4)
