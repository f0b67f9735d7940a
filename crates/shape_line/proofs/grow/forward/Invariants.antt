use Rattle.std.proofs.Common.{◌+◌, ◌-◌, ◌≤◌, length}
use Rattle.shape_terms.specs.Covers.{arc}
use Rattle.shape_line.specs.GrowSteps.{Takes}
use Rattle.shape_line.proofs.grow.forward.Given as goal

abbrev pub invariant-loop-place : goal.invariant-loop-place
invariant-loop-place l = record {
  rises : l.first ≤ l.place;
  taken : Takes l.axis (arc l.contour.points l.first l.place) l.segment;
}

abbrev pub decreases-loop-place : goal.decreases-loop-place
decreases-loop-place l = l.first + length l.contour.points - l.place
