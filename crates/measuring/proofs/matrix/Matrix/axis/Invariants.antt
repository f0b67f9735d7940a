use Rattle.std.proofs.Common.{◌-◌, ◌<◌, ◌≤◌, ℕ}
use Rattle.measuring.specs.MomentsFitting.{most_axis}
use Rattle.measuring.specs.Matrices.{IsBelow}
use Rattle.measuring.proofs.matrix.Matrix.axis.Given as goal

abbrev pub invariant-loop-low : goal.invariant-loop-low
invariant-loop-low l = record {
  order : l.low ≤ l.high;
  most : l.high ≤ most_axis;
  low : (m : ℕ) → m < l.low → IsBelow l.axis l.self m → ⊥;
  high : IsBelow l.axis l.self l.high;
}

abbrev pub decreases-loop-low : goal.decreases-loop-low
decreases-loop-low l = l.high - l.low
