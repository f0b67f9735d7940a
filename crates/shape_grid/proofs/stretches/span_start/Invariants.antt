use Rattle.std.proofs.Common.{◌≤◌, true}
use Rattle.shape_grid.proofs.SpanSteps.{AreKind}
use Rattle.shape_grid.proofs.stretches.span_start.Given as goal

abbrev pub invariant-loop-start : goal.invariant-loop-start
invariant-loop-start l = record { within : l.start ≤ l.until; all : AreKind l.words true l.start l.until }

abbrev pub decreases-loop-start : goal.decreases-loop-start
decreases-loop-start l = l.start
