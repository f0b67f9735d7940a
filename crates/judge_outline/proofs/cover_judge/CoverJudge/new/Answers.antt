use Rattle.judge_outline.proofs.Room.{few_lines}
use Rattle.shape_terms.proofs.Boxes.{few_pixels}
use Rattle.judge_outline.proofs.cover_judge.CoverJudge.new.Goals as goal

pub returns-clause-room : goal.returns-clause-room
returns-clause-room c =
    let X = c.args.grid.now in
    rw c.in_ok-segments.ensures.items
    (few_lines c.args.number X c.in_ok-contours.contours c.in_ok-contours.ensures
    (few_pixels c.args.grid.now.sides c.is_picture.ensures.picture.axes c.is_picture.ensures.in_range))
