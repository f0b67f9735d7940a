use Rattle.std.proofs.Common.{rules, FitsSigned, ◌∙◌}
use Rattle.std.specs.Int.{w64}
use Rattle.std.proofs.lemmas.Int.{to_z-of_z}
use Rattle.shape_plane.proofs.Refuting.{times_none}
use Rattle.shape_plane.proofs.weights.with_first.Goals as goal

pub returns-clause-none : goal.returns-clause-none
returns-clause-none c =
    let f1 : FitsSigned w64 c.args.m.times = search rules in
    let f2 : FitsSigned w64 c.args.m.combination.first_weight = search rules in
    λ e. c.with_row.ensures.none ((simp to_z-of_z at c.portion-times.ensures.value) ∙ times_none c.args.m.times c.args.m.combination.first_weight e)
