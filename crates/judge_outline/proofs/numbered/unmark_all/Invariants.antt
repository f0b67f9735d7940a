use Rattle.std.proofs.Common.{◌≡◌, map}
use Rattle.shape_terms.specs.Points.{raster_point}
use Rattle.judge_outline.proofs.Marking.{AreMarkedFrom}
use Rattle.judge_outline.proofs.numbered.unmark_all.Given as goal

abbrev pub invariant-loop-k : goal.invariant-loop-k
invariant-loop-k l = record {
  sides : l.marks.sides ≡ l.initial.marks.sides;
  marked : AreMarkedFrom (map (raster_point l.initial.marks.sides) l.numbers.items) l.k l.marks;
}
