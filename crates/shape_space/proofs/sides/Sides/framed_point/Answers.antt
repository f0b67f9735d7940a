use Rattle.std.proofs.Common.{arith, rules, refl, FitsSigned, w32}
use Rattle.std.proofs.lemmas.Int.{to_z-of_z}
use Rattle.shape_terms.specs.Points.{sides_of}
use Rattle.shape_terms.specs.FramedBox.{framed_point}
use Rattle.shape_terms.proofs.FramedBoxes.{framed_point_step, framed_point_done, framed_point_within}
use Rattle.shape_space.proofs.sides.Sides.framed_point.Goals as goal

pub loop-k-preserved : goal.loop-k-preserved
loop-k-preserved g c =
    let ns = g.P.Point.coords c.args.self.now.lengths in
    let a = g.met.P.Point.axes c.args.self.now.lengths in
    let b = g.met.P.Point.axes c.loop-k.p in
    let f : FitsSigned w32 c.framed_coordinate.result = search rules in
    framed_point_step ns (g.P.Point.coords c.loop-k.p) (g.P.Point.coords c.with-p.result) c.loop-k.k c.loop-k.left c.framed_side-side.result
    c.framed_coordinate.result (framed_point (sides_of ns) c.args.i) (omega arith) (omega arith) c.framed_side-side.ensures.value
    c.framed_coordinate.ensures (rw (to_z-of_z w32 c.framed_coordinate.result f) at c.with-p.ensures) c.loop-k.invariant

pub returns-clause-value : goal.returns-clause-value
returns-clause-value g c =
    framed_point_done (g.P.Point.coords c.args.self.now.lengths) (g.P.Point.coords c.loop-k.p) c.loop-k.k c.loop-k.left c.args.i
    (rw (g.met.P.Point.axes c.loop-k.p, g.met.P.Point.axes c.args.self.now.lengths) refl) (rw (g.met.P.Point.axes c.args.self.now.lengths) (omega arith))
    c.loop-k.invariant

pub returns-clause-within : goal.returns-clause-within
returns-clause-within g c =
    rw (returns-clause-value g c)
    (framed_point_within g.P.Point.MAX_SIDE (g.P.Point.coords c.args.self.now.lengths) c.args.i c.args.self.now.in_range g.met.P.Point.flat_side)
