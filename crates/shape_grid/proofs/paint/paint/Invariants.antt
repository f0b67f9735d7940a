use Rattle.std.proofs.Common.{◌≡◌, ◌*◌, get_or}
use Rattle.shape_grid.specs.Painting.{painted}
use Rattle.shape_grid.proofs.paint.paint.Given as goal

abbrev pub invariant-loop-row : goal.invariant-loop-row
invariant-loop-row g l =
    l.grid ≡ painted l.initial.grid (g.P.Point.coords l.ball.centre) l.ball.radius l.ball.object 0 (l.row * get_or l.initial.grid.sides 0 0)
