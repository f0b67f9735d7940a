use Rattle.std.proofs.Common.{◌*◌}
use Rattle.shape_grid.proofs.SpanSteps.{AreKind}
use Rattle.shape_grid.proofs.stretches.span_end.Given as goal

abbrev pub invariant-loop-w : goal.invariant-loop-w
invariant-loop-w l = AreKind l.words l.kind l.from (64 * l.w)
