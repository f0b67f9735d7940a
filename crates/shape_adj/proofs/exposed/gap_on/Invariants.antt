use Rattle.std.proofs.Common.{◌≡◌}
use Rattle.shape_terms.specs.Points.{sides_of}
use Rattle.shape_adj.specs.FacePoints.{gap_of}
use Rattle.shape_adj.proofs.exposed.gap_on.Given as goal

abbrev pub invariant-loop-k : goal.invariant-loop-k
invariant-loop-k g l = l.gap ≡ gap_of (sides_of (g.P.Point.coords l.sides.lengths)) l.k
