use Rattle.std.proofs.Common.{rules, arith, FitsSigned, sym, subst}
use Rattle.std.specs.Int.{w64}
use Rattle.std.proofs.lemmas.Int.{ints, to_z-of_z}
use Rattle.shape_plane.specs.declared.row.Row.{Row}
use Rattle.shape_plane.specs.Rows.{IsGap}
use Rattle.shape_plane.proofs.weights.with_second.Goals as goal

pub portion-times-requires-clause-weight_low : goal.portion-times-requires-clause-weight_low
portion-times-requires-clause-weight_low c =
    let f : FitsSigned w64 c.args.m.combination.second_weight = search rules in
    simp to_z-of_z (let l = c.requires.multiple.combination.second_low in omega (arith, ints, l))

pub returns-clause-gap : goal.returns-clause-gap
returns-clause-gap c = λ e. c.with_row.ensures.gap (subst (λ (r : Row). IsGap r.cause) (sym c.read.ensures) e)
