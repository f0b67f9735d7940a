use Rattle.std.proofs.Common.{rules, FitsSigned, w64}
use Rattle.std.proofs.lemmas.Int.{to_z-of_z}
use Rattle.shape_line.proofs.FrameLines.{other_small, other_fits, other_side}
use Rattle.shape_line.proofs.frame.side.Goals as goal

pub signed-requires-clause-small : goal.signed-requires-clause-small
signed-requires-clause-small c =
    let f = other_fits c.args.axis c.args.sense c.args.line.now c.requires.axis c.requires.plane in
    simp to_z-of_z (other_small c.args.axis c.args.sense c.args.line.now c.requires.axis c.requires.plane)

pub returns-clause-value : goal.returns-clause-value
returns-clause-value c =
    let f = other_fits c.args.axis c.args.sense c.args.line.now c.requires.axis c.requires.plane in
    let s = c.ranges.sense in
    let r : FitsSigned w64 c.signed.result = search rules in
    simp to_z-of_z (other_side c.args.axis c.args.sense c.args.line.now c.requires.axis c.requires.plane c.signed.result
    (simp to_z-of_z at c.signed.ensures.value))
