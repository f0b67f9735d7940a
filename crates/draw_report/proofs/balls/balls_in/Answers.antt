use Rattle.std.proofs.Common.{◌≡◌, length, take, ap, ◌∙◌, arith}
use Rattle.std.proofs.Math.Seq.{take-length}
use Rattle.shape_terms.specs.Points.{sides_of}
use Rattle.drawing.specs.Seen.{flat}
use Rattle.draw_report.specs.Circles.{balls_in}
use Rattle.draw_report.specs.Seen.{all_marks}
use Rattle.draw_report.proofs.CircleLaws.{balls_more}
use Rattle.draw_report.proofs.balls.balls_in.Goals as goal

pub loop-mark-preserved : goal.loop-mark-preserved
loop-mark-preserved c = balls_more (sides_of (flat c.args.sides.lengths)) c.args.marks.now c.loop-mark.mark-index _ _ _ c.loop-mark-test.true
    c.loop-mark.invariant c.in_ok-take_ball.ensures

pub returns : goal.returns
returns c =
    let marks = c.args.marks.now in
    let all : c.loop-mark.mark-index ≡ length marks = omega (arith, c.loop-mark-test.false, c.loop-mark.auto.mark-index-end) in
    c.loop-mark.invariant ∙ ap (λ ms. balls_in (sides_of (flat c.args.sides.lengths)) (all_marks ms)) (ap (λ k. take k marks) all ∙ take-length marks)
