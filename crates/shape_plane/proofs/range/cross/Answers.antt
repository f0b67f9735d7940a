use Rattle.shape_plane.proofs.Narrowing.{opposite_met}
use Rattle.shape_plane.proofs.range.cross.Goals as goal

pub returns-then-are_opposite : goal.returns-then-are_opposite
returns-then-are_opposite c = opposite_met c.args.rows.now c.args.old c.combined.result c.args.i c.args.j c.narrow.result c.combined.ensures.first
    c.combined.ensures.second c.combined.ensures.combination c.combined.ensures.first_weight c.combined.ensures.second_weight c.narrow.ensures
