use Rattle.std.specs.Prelude.{ℕ, ◌<◌, ◌∷◌, [], IsTrue, map}
use Rattle.shape_terms.specs.Limits.{most_flat}
use Rattle.shape_terms.specs.Points.{in_box}
use Rattle.shape_terms.specs.Refutations.{point_at}
use Rattle.shape_refute.specs.Terms.{flat_point}
use Rattle.run_cases.proofs.verdicts.are_inside.Given as goal

abbrev pub invariant-loop-i : goal.invariant-loop-i
invariant-loop-i l = (k : ℕ) → k < l.i → IsTrue (in_box (most_flat ∷ most_flat ∷ []) (point_at (map flat_point l.points) k))
