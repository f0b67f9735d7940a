use Rattle.std.proofs.Common.{rules, FitsSigned, w32, ap, ◌∙◌}
use Rattle.std.specs.Prelude.{nat_abs}
use Rattle.std.proofs.lemmas.Int.{to_z-of_z}
use Rattle.measuring.proofs.SiteNumbers.{first_side}
use Rattle.measuring.proofs.gather.width.Goals as goal

pub returns-clause-value : goal.returns-clause-value
returns-clause-value g c =
    let f : FitsSigned w32 c.side.result = search rules in
    rw (to_z-of_z w32 c.side.result f) (ap nat_abs c.side.ensures.value ∙ first_side (g.P.Point.coords c.args.sides.lengths))
