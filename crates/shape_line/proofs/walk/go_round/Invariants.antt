use Rattle.std.proofs.Common.{◌-◌}
use Rattle.shape_line.proofs.Passing.{IsGoing}
use Rattle.shape_line.proofs.walk.go_round.Given as goal

abbrev pub invariant-loop-reach : goal.invariant-loop-reach
invariant-loop-reach l = IsGoing l.contour.points l.entries.items l.reach l.round

abbrev pub decreases-loop-reach : goal.decreases-loop-reach
decreases-loop-reach l = l.round - l.reach.stretch.first
