use Rattle.std.proofs.Common.{◌-◌, ◌^◌}
use Rattle.shape_plane.specs.Rounds.{IsGoing}
use Rattle.shape_plane.proofs.grow.grow.Given as goal

abbrev pub invariant-loop-k : goal.invariant-loop-k
invariant-loop-k g l = IsGoing g.P.Point.DIM g.P.Pairing.NEAR_COUNT l.axis l.fn.left (g.P.Point.coords l.fn.p) l.k l.growing l.left l.tried l.refused

abbrev pub decreases-loop-k : goal.decreases-loop-k
decreases-loop-k g l = 2 ^ 32 - l.k
