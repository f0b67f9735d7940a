use Rattle.std.proofs.Common.{◌+◌, ◌*◌, ◌≤◌, length}
use Rattle.shape_envelope.specs.Parts.{AreBuilt}
use Rattle.shape_envelope.proofs.lowest.build.Given as goal

abbrev pub invariant-loop-j : goal.invariant-loop-j
invariant-loop-j g l = record {
  built : AreBuilt l.row l.places l.starts l.m l.j (length l.row);
  count : l.steps + l.m ≤ l.initial.steps + 3 * l.j;
}
