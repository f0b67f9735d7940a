use Rattle.std.proofs.Common.{ℕ, List}
use Rattle.measuring.specs.MinkowskiSoFar.{AreSoFar}
use Rattle.measuring.proofs.numbers_of_objects.no_points.Given as goal

abbrev pub invariant-loop-i : goal.invariant-loop-i
invariant-loop-i l = (sides labels : List ℕ) → AreSoFar sides labels l._i 0 l.all.items
