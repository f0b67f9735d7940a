use Rattle.shape_plane.proofs.Tightening.{tight_more}
use Rattle.shape_plane.proofs.span.second_slopes.Goals as goal

pub loop-j-preserved : goal.loop-j-preserved
loop-j-preserved c = tight_more c.args.rows.now c.args.f c.loop-j.best c.tighten-best.result c.loop-j.j c.loop-j.invariant c.tighten-best.ensures
