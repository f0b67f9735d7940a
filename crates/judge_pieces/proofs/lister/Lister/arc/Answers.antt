use Rattle.std.proofs.Common.{ap, ◌∙◌}
use Rattle.shape_crack.specs.Terms.{point_of}
use Rattle.judge_pieces.specs.PieceState.{open_points}
use Rattle.judge_pieces.proofs.Parts.{part_is}
use Rattle.judge_pieces.proofs.lister.Lister.arc.Goals as goal

pub returns-clause-value : goal.returns-clause-value
returns-clause-value c = part_is point_of c.as_slice-points.result.now (open_points c.args.self.now) c.args.first c.args.last
    (c.as_slice-points.ensures ∙ ap (λ k. k.points) c.open-open.ensures) c.requires.order c.requires.within
