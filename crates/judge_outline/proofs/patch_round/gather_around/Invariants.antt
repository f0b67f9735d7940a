use Rattle.std.proofs.Common.{◌≡◌, ◌≤◌}
use Rattle.std.specs.Prelude.{vec_capacity}
use Rattle.judge_outline.specs.Terms.{point_of}
use Rattle.judge_outline.specs.Listings.{AreNumberedOf}
use Rattle.judge_outline.proofs.Rounds.{Gathering}
use Rattle.judge_outline.proofs.patch_round.gather_around.Given as goal

abbrev pub invariant-loop-k : goal.invariant-loop-k
invariant-loop-k l = record {
  sides : l.marks.sides ≡ l.left.sides;
  numbered : AreNumberedOf l.left l.marks l.numbers.items (vec_capacity l.numbers);
  capacity : vec_capacity l.numbers ≡ vec_capacity l.initial.numbers;
  points : Gathering l.left (point_of l.p) (λ j. l.k ≤ j) l.initial.marks l.marks;
}
