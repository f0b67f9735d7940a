use Rattle.std.proofs.Common.{◌≡◌, ◌++◌, ◌∷◌, [], ◌<◌, refl, ap, sym, ◌∙◌, arith, length}
use Rattle.std.proofs.lemmas.List.{length-map}
use Rattle.std.proofs.lemmas.Option.{get_or_from_slice_get}
use Rattle.shape_window.specs.Marks.{is_marked}
use Rattle.judge_balls.specs.LineOf.{ball_of}
use Rattle.shape_balls.proofs.Choosing.{chosen_skip, chosen_push, chosen_all}
use Rattle.shape_balls.proofs.Fitting.{few_axes, chosen_fit}
use Rattle.shape_balls.proofs.list.listed.Goals as goal
use Rattle.shape_balls.proofs.list.listed.Goals.{then-get+in_ok-push, else-get}

pub loop-i-preserved : goal.loop-i-preserved
loop-i-preserved g c =
    let X = c.args.grid.now in
    let facts = c.args.field.now in
    let kept = c.args.kept.now in
    let n = c.len-i-end.ensures in
    let long = c.requires.keeping.long in
    let l : c.loop-i.i < length facts = omega arith in
    let read : c.get.result ≡ is_marked kept c.loop-i.i = c.get.ensures in
    elim c.if-get.branch [
      | then-get+in_ok-push w ↦ (
          let f = w.near-f.result in
          let items : c.if-get.balls.items ≡ c.loop-i.balls.items ++ record { centre = f.p; near = f.q; s = f.s; own = f.p } ∷ [] = ap (λ v. v.items) w.balls-is
          ∙ w.in_ok-push.ensures.items in
          rw items (chosen_push X facts c.requires.field kept c.args.covered.now c.requires.keeping (ball_of g.P.Point.coords)
          c.loop-i.i c.loop-i.balls.items _ (g.P.Point.coords f.p) (g.P.Point.coords f.q) f.s l (sym read ∙ w.if-get.true)
          (get_or_from_slice_get facts c.loop-i.i _ (record { p = []; q = []; s = 0 }) w.near-f.ensures) refl c.loop-i.invariant))
      | else-get w ↦ (
          let items : c.if-get.balls.items ≡ c.loop-i.balls.items = ap (λ v. v.items) w.balls-is in
          rw items (chosen_skip X facts kept c.loop-i.i _ (sym read ∙ w.if-get.false) c.loop-i.invariant))
    ]

pub returns-clause-balls : goal.returns-clause-balls
returns-clause-balls g c =
    let n = c.len-i-end.ensures in
    chosen_all c.args.grid.now c.args.field.now c.requires.field c.args.kept.now c.args.covered.now c.requires.keeping c.loop-i.i _ (omega arith) c.requires.all
    c.loop-i.invariant

pub returns-clause-fits : goal.returns-clause-fits
returns-clause-fits g c =
    let n = c.len-i-end.ensures in
    chosen_fit c.args.grid.now c.args.field.now c.requires.field c.requires.framed g.P.Point.DIM c.requires.axes
    (few_axes g.P.Point.DIM g.met.P.Point.two_or_three) c.args.kept.now c.loop-i.i _ (omega arith) c.loop-i.invariant

pub returns-clause-few : goal.returns-clause-few
returns-clause-few g c =
    let f = c.loop-i.invariant.few in
    omega (arith, length-map c.loop-i.balls.items (ball_of g.P.Point.coords))
