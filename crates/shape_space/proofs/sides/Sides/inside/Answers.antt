use Rattle.std.proofs.Common.{inl, inr, arith, sym, ◌∙◌}
use Rattle.std.proofs.lemmas.Int.{ints}
use Rattle.shape_terms.proofs.Boxes.{in_box_by}
use Rattle.shape_space.proofs.Loops.{out_of_box}
use Rattle.shape_space.proofs.sides.Sides.inside.Goals as goal
use Rattle.shape_space.proofs.sides.Sides.inside.Goals.{then-x-lt0-via-then-x-lt0, then-x-lt0-via-else-x-lt0+then-x-coord}

pub returns-then-x-lt0 : goal.returns-then-x-lt0
returns-then-x-lt0 g c =
    let s = c.args.self.now in
    let ns = g.P.Point.coords s.lengths in
    let p = g.P.Point.coords c.args.p in
    let a = g.met.P.Point.axes s.lengths in
    elim c.then-x-lt0.branch [
      | then-x-lt0-via-then-x-lt0 w ↦ sym
          (out_of_box g.P.Point.MAX_SIDE ns p c.loop-k.k s.in_range (omega arith) (inl (let t = w.if-x-lt0.true in omega (arith, ints, c.coord-x.ensures))))
      | then-x-lt0-via-else-x-lt0+then-x-coord w ↦ sym
          (out_of_box g.P.Point.MAX_SIDE ns p c.loop-k.k s.in_range (omega arith)
          (inr (let t = w.if-x-coord.true in omega (arith, ints, c.coord-x.ensures, w.coord.ensures))))
    ]

pub returns : goal.returns
returns g c =
    let s = c.args.self.now in
    let a = g.met.P.Point.axes s.lengths in
    let b = g.met.P.Point.axes c.args.p in
    sym (in_box_by (g.P.Point.coords s.lengths) (g.P.Point.coords c.args.p) (b ∙ sym a) (λ k l. c.loop-k.invariant k (omega arith)))
