use Rattle.std.proofs.Common.{◌-◌, ◌<◌, ◌≤◌, ℕ}
use Rattle.measuring.specs.Parts.{IsLess}
use Rattle.measuring.specs.Turns.{most_parts}
use Rattle.measuring.proofs.matrix.Matrix.part.Given as goal

abbrev pub invariant-loop-low : goal.invariant-loop-low
invariant-loop-low l = record {
  order : l.low ≤ l.high;
  most : l.high ≤ most_parts;
  low : (m : ℕ) → m < l.low → IsLess l.part l.self m → ⊥;
  high : IsLess l.part l.self l.high;
}

abbrev pub decreases-loop-low : goal.decreases-loop-low
decreases-loop-low l = l.high - l.low
