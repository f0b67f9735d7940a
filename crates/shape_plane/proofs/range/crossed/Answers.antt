use Rattle.std.proofs.Common.{subst}
use Rattle.shape_plane.specs.Rows.{row_at}
use Rattle.shape_plane.specs.Ranges.{LeaveRoom, HasNarrower}
use Rattle.shape_plane.proofs.Narrowing.{crossed_more}
use Rattle.shape_plane.proofs.range.crossed.Goals as goal

pub loop-i-preserved : goal.loop-i-preserved
loop-i-preserved c =
    crossed_more c.args.rows.now c.args.old c.loop-i.best c.in-Room.new c.loop-i.i c.args.j c.loop-i.invariant
    (subst (HasNarrower c.args.rows.now c.loop-i.best (λ p q. LeaveRoom p q (row_at c.args.rows.now c.loop-i.i) (row_at c.args.rows.now c.args.j))) c.in-Room.is
    c.cross.ensures)
