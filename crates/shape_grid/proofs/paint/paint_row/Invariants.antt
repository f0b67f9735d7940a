use Rattle.std.proofs.Common.{◌≡◌, ◌+◌, ◌*◌, get_or}
use Rattle.shape_grid.specs.Painting.{painted}
use Rattle.shape_grid.proofs.paint.paint_row.Given as goal

abbrev pub invariant-loop-x : goal.invariant-loop-x
invariant-loop-x g l =
    let start = l.fn.row * get_or l.initial.grid.sides 0 0 in
    l.grid ≡ painted l.initial.grid (g.P.Point.coords l.ball.centre) l.ball.radius l.ball.object (start + l.low) (start + l.x)
