use Rattle.std.proofs.Common.{ℕ, List}
use Rattle.measuring.specs.MomentsSoFar.{AreMomentsSoFar}
use Rattle.measuring.specs.MomentsTold.{all_told}
use Rattle.measuring.proofs.moments_of_objects.no_points.Given as goal

abbrev pub invariant-loop-i : goal.invariant-loop-i
invariant-loop-i l = (sides labels : List ℕ) → AreMomentsSoFar sides labels l._i 0 (all_told l.all.items)
