use Rattle.measuring.specs.ThicknessSoFar.{AreSumsSoFar}
use Rattle.measuring.proofs.thickness_of_objects.thickness_sums.Given as goal

abbrev pub invariant-loop-i : goal.invariant-loop-i
invariant-loop-i g l = AreSumsSoFar l.labels l.count l.thicknesses l.i l.all.items
