use Rattle.std.proofs.Common.{[], ap, sym, ◌∙◌, FitsSigned, rules, w32}
use Rattle.std.proofs.lemmas.List.{get_or-map}
use Rattle.std.proofs.lemmas.Int.{to_z-of_z}
use Rattle.shape_terms.specs.Points.{coordinate}
use Rattle.shape_terms.specs.Turns.{other_axis}
use Rattle.shape_refute.specs.Terms.{flat_point}
use Rattle.shape_refute.proofs.turn.other_at.Goals as goal

pub returns : goal.returns
returns c =
    let f : FitsSigned w32 c.coord.result = search rules in
    to_z-of_z w32 c.coord.result f ∙ c.coord.ensures
    ∙ sym (ap (λ p. coordinate p (other_axis c.args.axis)) (get_or-map flat_point c.args.points.now c.args.i _ [] c.requires.place))
