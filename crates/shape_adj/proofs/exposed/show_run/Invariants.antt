use Rattle.shape_adj.specs.FacePoints.{Gains, IsTrueFrom}
use Rattle.shape_adj.proofs.exposed.show_run.Given as goal

abbrev pub invariant-loop-k : goal.invariant-loop-k
invariant-loop-k g l = Gains l.fn.exposed l.exposed (IsTrueFrom l.grid.values l.first l.k)
