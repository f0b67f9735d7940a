use Rattle.std.proofs.Common.{◌+◌, ◌≤◌, length}
use Rattle.shape_envelope.specs.Parts.{IsCut}
use Rattle.shape_envelope.proofs.lowest.settle.Given as goal

abbrev pub invariant-loop-kept : goal.invariant-loop-kept
invariant-loop-kept g l = record {
  cut : IsCut l.row l.places l.starts l.kept l.j (length l.row);
  fewer : l.kept ≤ l.m;
  count : l.steps + l.kept ≤ l.initial.steps + l.m;
}

abbrev pub decreases-loop-kept : goal.decreases-loop-kept
decreases-loop-kept g l = l.kept
