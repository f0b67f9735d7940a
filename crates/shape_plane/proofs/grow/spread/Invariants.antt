use Rattle.shape_plane.specs.Rounds.{IsRound}
use Rattle.shape_plane.proofs.grow.spread.Given as goal

abbrev pub invariant-loop-rest : goal.invariant-loop-rest
invariant-loop-rest g l = IsRound g.P.Point.DIM g.P.Pairing.NEAR_COUNT (g.P.Point.coords l.around.point) l.rest l.fn.growing l.growing l.fn.left l.fn.tried
    l.left l.tried l.fn.refused l.refused

abbrev pub decreases-loop-rest : goal.decreases-loop-rest
decreases-loop-rest g l = l.rest
