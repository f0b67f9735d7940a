use Rattle.std.proofs.Common.{ℕ, ◌<◌}
use Rattle.std.specs.Prelude.{IsTrue}
use Rattle.shape_terms.specs.Pictures.{at}
use Rattle.shape_terms.specs.Adjacency.{near_point}
use Rattle.judge_outline.specs.Terms.{point_of}
use Rattle.judge_outline.proofs.patch_round.touches_around.Given as goal

abbrev pub invariant-loop-k : goal.invariant-loop-k
invariant-loop-k l = (j : ℕ) → j < l.k → IsTrue (at l.recent (near_point (point_of l.p) j)) → ⊥
