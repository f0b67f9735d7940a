use Rattle.std.proofs.Common.{◌*◌, ◌≤◌, take, ◌++◌, ℕ, List}
use Rattle.shape_terms.specs.Limits.{most_round}
use Rattle.shape_analyse.specs.Growing.{Aim, HasOutlined, IsTextOf}
use Rattle.shape_analyse.specs.Tallies.{HaveCovers}
use Rattle.shape_analyse.proofs.contour.add_contours.Given as goal

abbrev pub invariant-loop-k : goal.invariant-loop-k
invariant-loop-k l = ((X : Aim) (before : List ℕ) → IsTextOf (HasOutlined X l.contours 0) (before ++ l.fn.report)
    → IsTextOf (HasOutlined X l.contours l.k) (before ++ l.report))
    × HaveCovers (take l.k l.contours) l.segments × (l.segments ≤ l.k * most_round)
