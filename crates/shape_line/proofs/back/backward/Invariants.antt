use Rattle.std.proofs.Common.{◌<◌, ◌≤◌}
use Rattle.shape_terms.specs.BackArcs.{back_arc}
use Rattle.shape_line.specs.GrowSteps.{Takes}
use Rattle.shape_line.proofs.back.backward.Given as goal

abbrev pub invariant-loop-place : goal.invariant-loop-place
invariant-loop-place l = record {
  later : l.first < l.place;
  near : l.place ≤ l.last;
  taken : Takes l.axis (back_arc l.contour.points l.place l.last) l.segment;
}

abbrev pub decreases-loop-place : goal.decreases-loop-place
decreases-loop-place l = l.place
