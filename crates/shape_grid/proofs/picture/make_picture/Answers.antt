use Rattle.std.proofs.Common.{◌≡◌, ◌+◌, ◌*◌, ◌/◌, ap, ◌∙◌, arith}
use Rattle.shape_terms.specs.Pictures.{blank}
use Rattle.shape_grid.specs.Balls.{drawn_state, ball_centre, ball_radius}
use Rattle.shape_grid.proofs.DrawnBalls.{ball_centre-first, ball_radius-first, state_behind}
use Rattle.shape_grid.proofs.BallsInTurn.{blank_points, after_balls, after_more}
use Rattle.shape_grid.proofs.picture.make_picture.Goals as goal

pub loop-k-init : goal.loop-k-init
loop-k-init g c =
    let d = g.P.Point.DIM in
    let e : 0 ≡ 0 * (d + 1) = omega arith in record {
      state = ap (drawn_state c.args.seed) e;
      painted = c.in_ok-grid.ensures ∙ ap blank c.equal_sides.ensures ∙ blank_points _;
    }

pub loop-k-preserved : goal.loop-k-preserved
loop-k-preserved g c =
    let d = g.P.Point.DIM in
    let n = c.args.side in
    let s = c.args.seed in
    let k = c.loop-k.k in
    let b = c.drawn_ball-ball in
    let i = c.loop-k.invariant in record {
      state = b.ensures.state ∙ ap (λ t. drawn_state t (d + 1)) i.state ∙ state_behind d s k;
      painted = after_more d s n k (g.P.Point.coords b.result.centre) b.result.radius b.result.object
          (b.ensures.centre ∙ ap (λ t. ball_centre d n t 0) i.state ∙ ball_centre-first d n s k)
          (b.ensures.radius ∙ ap (λ t. ball_radius d n t 0) i.state ∙ ball_radius-first d n s k)
          b.ensures.object c.loop-k.grid c.paint.new.grid i.painted c.paint.ensures;
    }

pub returns : goal.returns
returns g c =
    let e : c.loop-k.k ≡ 1 + c.args.side / 8 = omega arith in record {
      picture = c.loop-k.invariant.painted ∙ ap (after_balls g.P.Point.DIM c.args.seed c.args.side) e;
    }
