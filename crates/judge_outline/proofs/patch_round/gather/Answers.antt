use Rattle.std.proofs.Common.{refl, sym, subst, ◌∙◌, arith}
use Rattle.std.specs.Prelude.{vec_capacity}
use Rattle.judge_outline.specs.Terms.{point_of}
use Rattle.judge_outline.specs.Listings.{HasRoomFor}
use Rattle.judge_outline.proofs.Numbering.{numbered_of_none}
use Rattle.judge_outline.proofs.Rounds.{gathered_none, gathered_more, gathered_all}
use Rattle.judge_outline.proofs.patch_round.gather.Goals as goal

pub loop-i-init : goal.loop-i-init
loop-i-init c = record {
  sides = c.requires.box_;
  numbered = rw c.clear.ensures.items
      (numbered_of_none c.args.left.now c.args.marks.now (vec_capacity c.clear.new.self) c.requires.none
      (subst (HasRoomFor c.args.left.now) (sym c.clear.ensures.capacity) c.requires.room));
  capacity = refl;
  points = gathered_none c.args.left.now c.args.taken.now.points c.args.start c.args.marks.now c.requires.none;
}

pub loop-i-preserved : goal.loop-i-preserved
loop-i-preserved c = record {
  sides = c.gather_round.ensures.box_;
  numbered = c.gather_round.ensures.numbered;
  capacity = c.gather_round.ensures.capacity ∙ c.loop-i.invariant.capacity;
  points = gathered_more c.args.left.now c.args.taken.now.points c.args.start c.loop-i.i (point_of c.point.result) c.loop-i.marks c.gather_round.new.marks
      c.loop-i.auto.i c.point.ensures.value c.gather_round.ensures.points c.loop-i.invariant.points;
}

pub returns-clause-points : goal.returns-clause-points
returns-clause-points c =
    gathered_all c.args.left.now c.args.taken.now.points c.args.start c.loop-i.i c.loop-i.marks (omega (arith, c.len-i-end.ensures.value, c.loop-i-test.false))
    c.loop-i.invariant.points

pub returns-clause-capacity : goal.returns-clause-capacity
returns-clause-capacity c = c.loop-i.invariant.capacity ∙ c.clear.ensures.capacity
