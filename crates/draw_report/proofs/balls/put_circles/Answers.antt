use Rattle.std.proofs.Common.{◌≡◌, ◌++◌, length, take, ap, ◌∙◌, arith}
use Rattle.std.proofs.Math.Seq.{take-length}
use Rattle.std.specs.List.{flat_map}
use Rattle.drawing.proofs.LayerLaws.{three, one_more}
use Rattle.draw_report.specs.Circles.{circle_text}
use Rattle.draw_report.specs.Seen.{all_balls}
use Rattle.draw_report.proofs.CircleLaws.{texts_more}
use Rattle.draw_report.proofs.balls.put_circles.Goals as goal

pub loop-b-preserved : goal.loop-b-preserved
loop-b-preserved c = one_more _ _ _ _ _ _ c.loop-b.invariant c.in_ok-put_circle.ensures
    (texts_more circle_text c.args.balls.now c.loop-b.b-index _ c.loop-b-test.true)

pub returns : goal.returns
returns c =
    let balls = c.args.balls.now in
    let all : c.loop-b.b-index ≡ length balls = omega (arith, c.loop-b-test.false, c.loop-b.auto.b-index-end) in
    let whole = ap (λ k. take k balls) all ∙ take-length balls in
    three _ _ _ _ _ _ _ c.in_ok-put.ensures (c.loop-b.invariant ∙ ap (λ bs. c.put.new.self ++ flat_map circle_text (all_balls bs)) whole) c.in_ok-put-2.ensures
