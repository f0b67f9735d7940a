use Rattle.std.proofs.Common.{rules, FitsSigned, w32, w64}
use Rattle.std.proofs.lemmas.Int.{to_z-of_z}
use Rattle.shape_refute.proofs.Steps.{plus_is, minus_is}
use Rattle.shape_refute.proofs.refutation.step_coordinate.Goals as goal

pub returns-in-Plus-clause-value : goal.returns-in-Plus-clause-value
returns-in-Plus-clause-value c =
    let f : FitsSigned w64 c.plus-in-Plus.result = search rules in
    let fm : FitsSigned w32 c.unit_coordinate-main.result = search rules in
    let fu : FitsSigned w32 c.unit_coordinate.result = search rules in
    let e = simp to_z-of_z at c.plus-in-Plus.ensures.value in
    rw (c.in-Plus.is, to_z-of_z w64 c.plus-in-Plus.result f)
    (plus_is c.args.axis c.in-Plus.u c.args.k c.plus-in-Plus.result c.unit_coordinate-main.result c.unit_coordinate.result e
    c.unit_coordinate-main.ensures.value c.unit_coordinate.ensures.value)

pub returns-in-Minus-clause-value : goal.returns-in-Minus-clause-value
returns-in-Minus-clause-value c =
    let f : FitsSigned w64 c.minus.result = search rules in
    let fm : FitsSigned w32 c.unit_coordinate-main.result = search rules in
    let fu : FitsSigned w32 c.unit_coordinate-in-Minus.result = search rules in
    let e = simp to_z-of_z at c.minus.ensures.value in
    rw (c.in-Minus.is, to_z-of_z w64 c.minus.result f)
    (minus_is c.args.axis c.in-Minus.u c.args.k c.minus.result c.unit_coordinate-main.result c.unit_coordinate-in-Minus.result e
    c.unit_coordinate-main.ensures.value c.unit_coordinate-in-Minus.ensures.value)
