use Rattle.std.proofs.Common.{◌≡◌, ◌≤◌, ◌+◌, ◌*◌, ◌^◌, drop, map}
use Rattle.std.specs.Prelude.{unsigned_abs}
use Rattle.shape_refute.specs.Sums.{shares_sum, axis_value}
use Rattle.shape_refute.proofs.refutation.points_sum.Given as goal

abbrev pub invariant-loop-i : goal.invariant-loop-i
invariant-loop-i g l = (l.total ≡ shares_sum (axis_value (map g.P.Point.coords l.points) l.k l.less) (drop l.i l.shares))
    × (unsigned_abs l.total + l.i * 2 ^ 97 ≤ 2 ^ 99)
