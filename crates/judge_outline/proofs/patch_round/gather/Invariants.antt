use Rattle.std.proofs.Common.{◌≡◌}
use Rattle.std.specs.Prelude.{vec_capacity}
use Rattle.judge_outline.specs.Listings.{AreNumberedOf}
use Rattle.judge_outline.proofs.Rounds.{GatheredTo}
use Rattle.judge_outline.proofs.patch_round.gather.Given as goal

abbrev pub invariant-loop-i : goal.invariant-loop-i
invariant-loop-i l = record {
  sides : l.marks.sides ≡ l.left.sides;
  numbered : AreNumberedOf l.left l.marks l.numbers.items (vec_capacity l.numbers);
  capacity : vec_capacity l.numbers ≡ vec_capacity l.initial.numbers;
  points : GatheredTo l.left l.taken.points l.start l.i l.marks;
}
