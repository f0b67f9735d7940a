use Rattle.std.specs.Prelude.{ℕ, ◌+◌, ◌<◌, map}
use Rattle.shape_terms.specs.Steps.{AreClose}
use Rattle.shape_terms.specs.Refutations.{point_at}
use Rattle.shape_refute.specs.Terms.{flat_point}
use Rattle.run_cases.proofs.verdicts.are_near.Given as goal

abbrev pub invariant-loop-i : goal.invariant-loop-i
invariant-loop-i l = (k : ℕ) → k < l.i → AreClose (point_at (map flat_point l.points) k) (point_at (map flat_point l.points) (k + 1))
