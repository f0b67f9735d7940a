use Rattle.std.proofs.Common.{◌≡◌}
use Rattle.judge_outline.proofs.Marking.{AreMarkedFrom}
use Rattle.judge_outline.proofs.recent.unmark.Given as goal

abbrev pub invariant-loop-i : goal.invariant-loop-i
invariant-loop-i l = record {
  sides : l.recent.sides ≡ l.taken.sides;
  marked : AreMarkedFrom l.taken.points l.i l.recent;
}
