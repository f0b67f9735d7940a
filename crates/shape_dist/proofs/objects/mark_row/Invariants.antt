use Rattle.std.proofs.Common.{◌+◌, ◌-◌, ◌≤◌}
use Rattle.shape_dist.specs.Objects.{AreValuesTo}
use Rattle.shape_dist.proofs.objects.mark_row.Given as goal

abbrev pub invariant-loop-x : goal.invariant-loop-x
invariant-loop-x g l = record {
  most : l.x ≤ l.n;
  done : AreValuesTo l.grid (l.place + l.x) l.objects;
}

abbrev pub decreases-loop-x : goal.decreases-loop-x
decreases-loop-x g l = l.n - l.x
