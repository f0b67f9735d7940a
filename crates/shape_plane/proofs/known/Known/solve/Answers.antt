use Rattle.std.proofs.Common.{map, sym, subst}
use Rattle.shape_plane.specs.Solved.{IsSolved}
use Rattle.shape_plane.proofs.Deciding.{solved_told}
use Rattle.shape_plane.proofs.known.Known.solve.Goals as goal

pub returns : goal.returns
returns g c = λ pairs places same.
    subst (IsSolved g.P.Point.DIM c.args.axis (map g.P.Point.coords c.args.points.now) pairs) (sym c.solved_by.ensures)
    (solved_told g.P.Point.DIM c.args.axis (map g.P.Point.coords c.args.points.now) pairs c.find-slopes.result c.find-slopes.new.why
    (c.find-slopes.ensures pairs places same))
