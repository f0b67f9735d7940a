use Rattle.std.proofs.Common.{inl, inr, arith, sym, ◌∙◌}
use Rattle.std.proofs.lemmas.Int.{ints}
use Rattle.shape_terms.proofs.FramedNumbers.{in_frame_by, out_of_frame}
use Rattle.shape_space.proofs.sides.Sides.in_frame.Goals as goal
use Rattle.shape_space.proofs.sides.Sides.in_frame.Goals.{then-x-ltminus1-via-then-x-ltminus1, then-x-ltminus1-via-else-x-ltminus1+then-x-side}

pub returns-then-x-ltminus1 : goal.returns-then-x-ltminus1
returns-then-x-ltminus1 g c =
    let s = c.args.self.now in
    let ns = g.P.Point.coords s.lengths in
    let p = g.P.Point.coords c.args.p in
    let a = g.met.P.Point.axes s.lengths in
    elim c.then-x-ltminus1.branch [
      | then-x-ltminus1-via-then-x-ltminus1 w ↦ sym
          (out_of_frame g.P.Point.MAX_SIDE ns p c.loop-k.k s.in_range (omega arith)
          (inl (let t = w.if-x-ltminus1.true in omega (arith, ints, c.coord-x.ensures))))
      | then-x-ltminus1-via-else-x-ltminus1+then-x-side w ↦ sym
          (out_of_frame g.P.Point.MAX_SIDE ns p c.loop-k.k s.in_range (omega arith)
          (inr (let t = w.if-x-side.true in omega (arith, ints, c.coord-x.ensures, w.side.ensures.value))))
    ]

pub returns : goal.returns
returns g c =
    let s = c.args.self.now in
    let a = g.met.P.Point.axes s.lengths in
    let b = g.met.P.Point.axes c.args.p in
    sym (in_frame_by (g.P.Point.coords s.lengths) (g.P.Point.coords c.args.p) (b ∙ sym a) (λ k l. c.loop-k.invariant k (omega arith)))
