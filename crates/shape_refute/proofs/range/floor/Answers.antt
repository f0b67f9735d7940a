use Rattle.std.proofs.Common.{rules, FitsSigned}
use Rattle.std.specs.Int.{w64}
use Rattle.std.proofs.lemmas.Int.{to_z-of_z}
use Rattle.shape_refute.proofs.Ranges.{floor_mirrored}
use Rattle.shape_refute.proofs.range.floor.Goals as goal

pub returns-else-n-ge0-clause-floor : goal.returns-else-n-ge0-clause-floor
returns-else-n-ge0-clause-floor c =
    let fn : FitsSigned w64 c.args.n = c.ranges.n in
    let fs : FitsSigned w64 c.args.s = c.ranges.s in
    let fm : FitsSigned w64 c.mirrored.result = search rules in
    let fr : FitsSigned w64 c.mirrored-else-n-ge0.result = search rules in
    let fq : FitsSigned w64 c.quotient_of-else-n-ge0.result = search rules in
    let m = simp to_z-of_z at c.mirrored.ensures in
    let r = simp to_z-of_z at c.mirrored-else-n-ge0.ensures in
    let f = simp to_z-of_z at c.quotient_of-else-n-ge0.ensures.floor in
    simp to_z-of_z (floor_mirrored c.args.n c.args.s _ _ _ m r f)
