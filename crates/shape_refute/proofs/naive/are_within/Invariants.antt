use Rattle.std.proofs.Common.{◌<◌, ℕ, pos, nat_abs, ◌≤ℤ◌}
use Rattle.shape_terms.specs.Points.{coordinate}
use Rattle.shape_refute.proofs.naive.are_within.Given as goal

abbrev pub invariant-loop-k : goal.invariant-loop-k
invariant-loop-k g l = (u : ℕ) → u < l.k → pos (nat_abs (coordinate l.a u)) ≤ℤ l.bound
