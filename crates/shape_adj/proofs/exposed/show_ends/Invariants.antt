use Rattle.shape_adj.specs.FacePoints.{Gains, IsTrueInBlocks}
use Rattle.shape_adj.proofs.exposed.show_ends.Given as goal

abbrev pub invariant-loop-number : goal.invariant-loop-number
invariant-loop-number g l = Gains l.fn.exposed l.exposed (IsTrueInBlocks l.grid.values l.block l.start l.gap l.number)
