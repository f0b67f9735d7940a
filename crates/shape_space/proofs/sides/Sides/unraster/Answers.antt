use Rattle.std.proofs.Common.{arith, refl}
use Rattle.shape_terms.specs.Points.{sides_of}
use Rattle.shape_terms.proofs.Boxes.{raster_point_in, raster_number-raster_point}
use Rattle.shape_space.proofs.Loops.{raster_point_done}
use Rattle.shape_space.proofs.sides.Sides.unraster.Goals as goal

pub returns-clause-value : goal.returns-clause-value
returns-clause-value g c =
    raster_point_done (g.P.Point.coords c.args.self.now.lengths) (g.P.Point.coords c.loop-k.p) c.loop-k.k c.loop-k.left c.args.i
    (rw (g.met.P.Point.axes c.loop-k.p, g.met.P.Point.axes c.args.self.now.lengths) refl) (rw (g.met.P.Point.axes c.args.self.now.lengths) (omega arith))
    c.loop-k.invariant

pub returns-clause-inside : goal.returns-clause-inside
returns-clause-inside g c =
    rw (returns-clause-value g c) (raster_point_in (sides_of (g.P.Point.coords c.args.self.now.lengths)) c.args.i c.requires)

pub returns-clause-back : goal.returns-clause-back
returns-clause-back g c =
    rw (returns-clause-value g c) (raster_number-raster_point (sides_of (g.P.Point.coords c.args.self.now.lengths)) c.args.i c.requires)
