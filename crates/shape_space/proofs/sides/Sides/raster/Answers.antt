use Rattle.std.proofs.Common.{◌≡◌, ◌-◌, arith, rules, refl, FitsSigned, w32}
use Rattle.std.proofs.lemmas.Int.{to_z-of_z}
use Rattle.shape_terms.specs.Points.{coordinate, sides_of, raster_number}
use Rattle.shape_terms.proofs.Boxes.{raster_below, raster_point-raster_number}
use Rattle.shape_space.proofs.Loops.{raster_step, raster_part}
use Rattle.shape_space.proofs.sides.Sides.raster.Goals as goal

pub overflow_mul-i : goal.overflow_mul-i
overflow_mul-i g c =
    let s = c.args.self.now in
    let ns = g.P.Point.coords s.lengths in
    let p = g.P.Point.coords c.args.p in
    let f : FitsSigned w32 c.coord.result = search rules in
    let a = g.met.P.Point.axes s.lengths in
    let b = g.met.P.Point.axes c.args.p in
    let few = s.few in
    let part = raster_part g.P.Point.MAX_SIDE ns p c.loop-k.k (c.loop-k.k - 1) c.loop-k.i c.coord.result (coordinate p (c.loop-k.k - 1)) (omega arith)
    (omega arith) (omega arith) c.loop-k.invariant c.coord.ensures refl c.requires s.in_range in
    rw (to_z-of_z w32 c.coord.result f) (omega arith)

pub overflow_add-i : goal.overflow_add-i
overflow_add-i g c =
    let s = c.args.self.now in
    let ns = g.P.Point.coords s.lengths in
    let p = g.P.Point.coords c.args.p in
    let f : FitsSigned w32 c.coord.result = search rules in
    let f2 : FitsSigned w32 c.coord-in-loop-k.result = search rules in
    let a = g.met.P.Point.axes s.lengths in
    let b = g.met.P.Point.axes c.args.p in
    let few = s.few in
    let part = raster_part g.P.Point.MAX_SIDE ns p c.loop-k.k (c.loop-k.k - 1) c.loop-k.i c.coord.result c.coord-in-loop-k.result (omega arith) (omega arith)
    (omega arith) c.loop-k.invariant c.coord.ensures c.coord-in-loop-k.ensures c.requires s.in_range in
    rw (to_z-of_z w32 c.coord.result f, to_z-of_z w32 c.coord-in-loop-k.result f2) (omega arith)

pub loop-k-preserved : goal.loop-k-preserved
loop-k-preserved g c =
    let s = c.args.self.now in
    let ns = g.P.Point.coords s.lengths in
    let p = g.P.Point.coords c.args.p in
    let f : FitsSigned w32 c.coord.result = search rules in
    let f2 : FitsSigned w32 c.coord-in-loop-k.result = search rules in
    let a = g.met.P.Point.axes s.lengths in
    let b = g.met.P.Point.axes c.args.p in
    let t = raster_step ns p c.loop-k.k (c.loop-k.k - 1) c.loop-k.i c.coord.result c.coord-in-loop-k.result (omega arith) (omega arith) (omega arith)
    c.loop-k.invariant c.coord.ensures c.coord-in-loop-k.ensures in
    rw (to_z-of_z w32 c.coord.result f, to_z-of_z w32 c.coord-in-loop-k.result f2) t

pub returns-clause-below : goal.returns-clause-below
returns-clause-below g c =
    let s = c.args.self.now in
    let ns = g.P.Point.coords s.lengths in
    let p = g.P.Point.coords c.args.p in
    let r = raster_below (sides_of ns) p c.requires in
    let e : c.loop-k.i ≡ raster_number (sides_of ns) p = search rules in
    omega arith

pub returns-clause-back : goal.returns-clause-back
returns-clause-back g c =
    let s = c.args.self.now in
    let ns = g.P.Point.coords s.lengths in
    let p = g.P.Point.coords c.args.p in
    let e : c.loop-k.i ≡ raster_number (sides_of ns) p = search rules in
    rw e (raster_point-raster_number (sides_of ns) p c.requires)
