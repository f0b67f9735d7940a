use Rattle.judge_edges.proofs.Taken.{few_lines}
use Rattle.shape_terms.proofs.Boxes.{few_pixels}
use Rattle.judge_edges.proofs.judge.EdgeJudge.new.Goals as goal

pub returns-clause-room : goal.returns-clause-room
returns-clause-room c =
    rw c.in_ok-arcs.ensures.items
    (few_lines c.args.grid.now c.in_ok-cycles.cycles c.in_ok-cycles.ensures
    (few_pixels c.args.grid.now.sides c.is_picture.ensures.picture.axes c.is_picture.ensures.in_range))
