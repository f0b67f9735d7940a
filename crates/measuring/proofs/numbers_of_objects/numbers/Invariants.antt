use Rattle.shape_terms.specs.Points.{sides_of}
use Rattle.measuring.specs.MinkowskiSoFar.{AreSoFar}
use Rattle.measuring.proofs.numbers_of_objects.numbers.Given as goal

abbrev pub invariant-loop-i : goal.invariant-loop-i
invariant-loop-i g l = AreSoFar (sides_of (g.P.Point.coords l.near.sides.lengths)) (g.L.Labelling.labels l.labels) l.count l.i l.all.items
