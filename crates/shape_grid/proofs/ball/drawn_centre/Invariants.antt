use Rattle.std.proofs.Common.{◌≡◌, take}
use Rattle.shape_grid.specs.Balls.{drawn_state}
use Rattle.shape_grid.proofs.DrawnBalls.{first_drawn}
use Rattle.shape_grid.proofs.ball.drawn_centre.Given as goal

abbrev pub invariant-loop-k : goal.invariant-loop-k
invariant-loop-k g l = record {
  state : l.draws.state ≡ drawn_state l.initial.draws.state l.k;
  drawn : take l.k (g.P.Point.coords l.centre) ≡ first_drawn g.P.Point.DIM l.side l.initial.draws.state l.k;
}
