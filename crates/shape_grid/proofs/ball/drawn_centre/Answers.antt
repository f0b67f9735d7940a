use Rattle.std.proofs.Common.{◌≡◌, ◌%◌, ◌+◌, ◌<◌, pos, take, ap, ◌∙◌, arith, to_z, w32, length}
use Rattle.std.proofs.lemmas.Int.{ints}
use Rattle.shape_grid.specs.Balls.{drawn_state, draw}
use Rattle.shape_grid.proofs.DrawnBalls.{drawn_state-add, first_more}
use Rattle.shape_grid.proofs.ball.drawn_centre.Goals as goal

pub loop-k-preserved : goal.loop-k-preserved
loop-k-preserved g c =
    let k = c.loop-k.k in
    let n = c.args.side in
    let s = c.args.draws.now.state in
    let x = c.next.result in
    let i = c.loop-k.invariant in
    let a = g.met.P.Point.axes c.loop-k.centre in
    let below : k < length (g.P.Point.coords c.loop-k.centre) = omega arith in
    let e : to_z w32 (x % n) ≡ pos (x % n) = omega (arith, ints) in record {
      state = c.next.ensures.state ∙ ap (λ t. drawn_state t 1) i.state ∙ drawn_state-add s k 1;
      drawn = ap (take (k + 1)) c.with-centre.ensures ∙ first_more g.P.Point.DIM n s k (g.P.Point.coords c.loop-k.centre) (to_z w32 (x % n)) x below i.drawn
          (c.next.ensures.drawn ∙ ap (λ t. draw t 0) i.state) e;
    }
