use Rattle.std.proofs.Common.{◌*◌}
use Rattle.shape_adj.specs.FacePoints.{Gains, IsOpenBelow}
use Rattle.shape_adj.proofs.exposed.expose_run.Given as goal

abbrev pub invariant-loop-w : goal.invariant-loop-w
invariant-loop-w g l = Gains l.fn.exposed l.exposed (IsOpenBelow l.grid.values l.first l.other (64 * l.w))
