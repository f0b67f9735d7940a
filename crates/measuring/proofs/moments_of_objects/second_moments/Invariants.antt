use Rattle.shape_terms.specs.Points.{sides_of}
use Rattle.measuring.specs.MomentsSoFar.{AreMomentsSoFar}
use Rattle.measuring.specs.MomentsTold.{all_told}
use Rattle.measuring.proofs.moments_of_objects.second_moments.Given as goal

abbrev pub invariant-loop-i : goal.invariant-loop-i
invariant-loop-i g l = AreMomentsSoFar (sides_of (g.P.Point.coords l.sides.lengths)) l.labels l.count l.i (all_told l.all.items)
