use Rattle.std.proofs.Common.{◌≡◌, ◌*◌, ◌+◌}
use Rattle.shape_grid.specs.Balls.{drawn_state}
use Rattle.shape_grid.proofs.BallsInTurn.{after_balls}
use Rattle.shape_grid.proofs.picture.make_picture.Given as goal

abbrev pub invariant-loop-k : goal.invariant-loop-k
invariant-loop-k g l = record {
  state : l.draws.state ≡ drawn_state l.seed (l.k * (g.P.Point.DIM + 1));
  painted : l.grid ≡ after_balls g.P.Point.DIM l.seed l.side l.k;
}
