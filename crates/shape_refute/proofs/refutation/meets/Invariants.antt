use Rattle.std.proofs.Common.{◌≡◌, ◌<◌, ℕ, map}
use Rattle.shape_terms.specs.Points.{coordinate}
use Rattle.shape_refute.specs.Sums.{low_side, high_side}
use Rattle.shape_refute.specs.Weights.{refutation_of}
use Rattle.shape_refute.proofs.refutation.meets.Given as goal

abbrev pub invariant-loop-k : goal.invariant-loop-k
invariant-loop-k g l = (j : ℕ) → j < l.k → coordinate (low_side l.axis (map g.P.Point.coords l.points) (refutation_of l.r)) j
    ≡ coordinate (high_side l.axis (map g.P.Point.coords l.points) (refutation_of l.r)) j
