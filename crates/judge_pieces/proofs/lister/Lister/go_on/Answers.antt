use Rattle.std.proofs.Common.{ap, ◌∙◌}
use Rattle.judge_pieces.specs.PieceState.{Listed, with_piece}
use Rattle.judge_pieces.proofs.lister.Lister.go_on.Goals as goal

pub returns-clause-contours : goal.returns-clause-contours
returns-clause-contours c = ap (λ (t : Listed). t.contours) c.self.view_is

pub returns-clause-next : goal.returns-clause-next
returns-clause-next c = c.with_piece-self-inside.ensures ∙ ap (λ (t : Listed). with_piece t.standing c.args.first c.args.last) c.self.view_is
