use Rattle.std.proofs.Common.{ℕ, ◌<◌, get_or}
use Rattle.shape_space.specs.declared.point.P2.{P2}
use Rattle.shape_terms.specs.Naive.{HoldsPoint}
use Rattle.shape_refute.specs.Terms.{naive_of}
use Rattle.shape_refute.specs.Terms.{flat_point}
use Rattle.shape_refute.proofs.segment.holds_all.Given as goal

abbrev pub invariant-loop-i : goal.invariant-loop-i
invariant-loop-i l = (j : ℕ) (d : P2) → j < l.i → HoldsPoint l.line.axis (naive_of 2 l.line) (flat_point (get_or l.run j d))
