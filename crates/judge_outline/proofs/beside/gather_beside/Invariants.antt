use Rattle.std.proofs.Common.{◌≡◌, ◌<◌, ℕ}
use Rattle.std.specs.Prelude.{IsTrue, vec_capacity}
use Rattle.shape_terms.specs.Adjacency.{near_point}
use Rattle.shape_terms.specs.Pictures.{at}
use Rattle.shape_adj.specs.NearMasks.{In}
use Rattle.judge_outline.specs.Terms.{point_of}
use Rattle.judge_outline.specs.Listings.{AreNumberedOf}
use Rattle.judge_outline.proofs.Rounds.{Gathering}
use Rattle.judge_outline.proofs.NearBeside.{Awaits}
use Rattle.judge_outline.proofs.beside.gather_beside.Given as goal

abbrev pub invariant-loop-rest : goal.invariant-loop-rest
invariant-loop-rest l = record {
  sides : l.marks.sides ≡ l.left.sides;
  numbered : AreNumberedOf l.left l.marks l.numbers.items (vec_capacity l.numbers);
  capacity : vec_capacity l.numbers ≡ vec_capacity l.initial.numbers;
  there : (j : ℕ) → In l.rest j → (j < 26) × IsTrue (at l.left (near_point (point_of l.fn.q) j));
  points : Gathering l.left (point_of l.fn.p) (Awaits (point_of l.fn.p) (point_of l.fn.q) l.rest) l.initial.marks l.marks;
}

abbrev pub decreases-loop-rest : goal.decreases-loop-rest
decreases-loop-rest l = l.rest
