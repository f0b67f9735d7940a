use Rattle.std.proofs.Common.{rules, FitsSigned}
use Rattle.std.specs.Int.{w64}
use Rattle.std.proofs.lemmas.Int.{to_z-of_z}
use Rattle.shape_refute.proofs.Ranges.{floor_value}
use Rattle.shape_refute.proofs.range.quotient_of.Goals as goal

pub returns-clause-floor : goal.returns-clause-floor
returns-clause-floor c =
    let fn : FitsSigned w64 c.args.n = c.ranges.n in
    let fs : FitsSigned w64 c.args.s = c.ranges.s in
    let m = simp to_z-of_z at c.natural.ensures in
    let d = simp to_z-of_z at c.natural-2.ensures in
    let fr : FitsSigned w64 c.signed.result = search rules in
    simp to_z-of_z (floor_value c.args.n c.args.s _ _ _ _ m d c.requires.some c.quotient.ensures.value c.signed.ensures.value)
