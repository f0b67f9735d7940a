use Rattle.std.proofs.Common.{drop}
use Rattle.shape_refute.specs.Sums.{ArePlaces}
use Rattle.shape_refute.proofs.refutation.are_places.Given as goal

abbrev pub invariant-loop-i : goal.invariant-loop-i
invariant-loop-i l = ArePlaces l.count (drop l.i l.shares)
