use Rattle.std.proofs.Common.{◌≡◌, drop}
use Rattle.shape_terms.specs.Points.{sides_of, raster_number}
use Rattle.shape_space.proofs.sides.Sides.raster.Given as goal

abbrev pub invariant-loop-k : goal.invariant-loop-k
invariant-loop-k g l = l.i ≡ raster_number (sides_of (drop l.k (g.P.Point.coords l.self.lengths))) (drop l.k (g.P.Point.coords l.p))
