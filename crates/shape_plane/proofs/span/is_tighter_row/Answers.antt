use Rattle.shape_plane.specs.Rows.{row_at, level}
use Rattle.shape_plane.proofs.Tightening.{compared}
use Rattle.shape_plane.proofs.span.is_tighter_row.Goals as goal

pub returns : goal.returns
returns c =
    compared c.is_tighter.result c.bound_of-old.result.x c.bound_of-old.result.z c.bound_of-new.result.x c.bound_of-new.result.z
    (row_at c.args.rows.now c.args.i).y (level c.args.f.num c.args.f.den (row_at c.args.rows.now c.args.i)) (row_at c.args.rows.now c.args.j).y
    (level c.args.f.num c.args.f.den (row_at c.args.rows.now c.args.j))
    c.bound_of-old.ensures.x c.bound_of-old.ensures.z c.bound_of-new.ensures.x c.bound_of-new.ensures.z c.is_tighter.ensures
