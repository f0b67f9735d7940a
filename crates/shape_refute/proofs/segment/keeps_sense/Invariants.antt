use Rattle.std.proofs.Common.{ℕ, ◌+◌, ◌<◌, map}
use Rattle.shape_terms.specs.Turns.{IsTurn}
use Rattle.shape_refute.specs.Terms.{flat_point}
use Rattle.shape_refute.proofs.segment.keeps_sense.Given as goal

abbrev pub invariant-loop-j : goal.invariant-loop-j
invariant-loop-j l = (k : ℕ) → k + 1 < l.j → IsTurn l.axis (map flat_point l.run) 0 k → ⊥
