use Rattle.std.proofs.Common.{◌≤◌, ◌*◌, length}
use Rattle.measuring.specs.Corners.{corners}
use Rattle.measuring.specs.Lines.{AreLines, reach}
use Rattle.measuring.proofs.bounds.bounds.Given as goal

abbrev pub invariant-loop-at : goal.invariant-loop-at
invariant-loop-at l = record {
  lines : AreLines l.rows l.at (reach l.rows l.at) (corners l.points.items);
  few : length l.points.items ≤ 4 * l.at;
}
