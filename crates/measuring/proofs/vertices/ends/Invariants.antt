use Rattle.shape_terms.specs.Points.{sides_of}
use Rattle.measuring.specs.Layers.{AreEnds}
use Rattle.measuring.proofs.vertices.ends.Given as goal

abbrev pub invariant-loop-at : goal.invariant-loop-at
invariant-loop-at g l = AreEnds (sides_of (g.P.Point.coords l.sides.lengths)) l.stretches l.at l.all.items
