use Rattle.std.proofs.Common.{◌≡◌, ◌<◌, ◌≤◌, ℕ}
use Rattle.std.specs.Fmt.{decimal}
use Rattle.measuring.proofs.spelled.side_spelled.Given as goal

abbrev pub invariant-loop-n : goal.invariant-loop-n
invariant-loop-n l = (k : ℕ) → 1 ≤ k → k < l.n → l.word ≡ decimal k → ⊥
