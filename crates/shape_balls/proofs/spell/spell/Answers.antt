use Rattle.std.proofs.Common.{◌++◌, ◌∙◌, ap, get_or, arith}
use Rattle.text_terms.specs.Spellings.{line_text}
use Rattle.ball_terms.specs.Lines.{Line, spelled}
use Rattle.judge_balls.specs.LineOf.{ball_of}
use Rattle.shape_balls.proofs.Spelling.{first_text, next_text, last_text}
use Rattle.shape_balls.proofs.spell.spell.Goals as goal

pub loop-ball-init : goal.loop-ball-init
loop-ball-init g c =
    let T = spelled g.P.Point.DIM in
    let coords = g.P.Point.coords in
    let sides = coords c.args.sides in
    c.in_ok-add.ensures.ok ∙ ap (λ t. t ++ line_text T (Line.Balls sides c.len-number.result)) c.new-report.ensures
    ∙ first_text T (ball_of coords) sides c.len-number.result

pub loop-ball-preserved : goal.loop-ball-preserved
loop-ball-preserved g c =
    let coords = g.P.Point.coords in
    c.in_ok-add-2.ensures.ok
    ∙ next_text (spelled g.P.Point.DIM) (ball_of coords) (coords c.args.sides) c.len-number.result c.args.balls.now.items c.loop-ball.ball-index
    c.ball-item.result c.loop-ball.report (omega arith)
    (c.ball-item.is ∙ ap (λ bs. get_or bs c.loop-ball.ball-index c.ball-item.result) c.deref-ball-items.ensures.value) c.loop-ball.invariant

pub returns : goal.returns
returns g c =
    let coords = g.P.Point.coords in
    c.in_ok-add-3.ensures.ok
    ∙ last_text (spelled g.P.Point.DIM) (ball_of coords) (coords c.args.sides) c.len-number.result c.args.balls.now.items c.loop-ball.ball-index
    c.loop-ball.report (omega arith) (omega arith) c.loop-ball.invariant
