use Rattle.std.proofs.Common.{◌≡◌, drop}
use Rattle.shape_terms.specs.Points.{sides_of}
use Rattle.shape_terms.specs.Places.{framed_number}
use Rattle.shape_space.proofs.sides.Sides.framed_number.Given as goal

abbrev pub invariant-loop-k : goal.invariant-loop-k
invariant-loop-k g l = l.i ≡ framed_number (sides_of (drop l.k (g.P.Point.coords l.self.lengths))) (drop l.k (g.P.Point.coords l.p))
