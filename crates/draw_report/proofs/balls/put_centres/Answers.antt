use Rattle.std.proofs.Common.{◌≡◌, ◌++◌, length, take, ap, ◌∙◌, arith}
use Rattle.std.proofs.Math.Seq.{take-length}
use Rattle.std.specs.List.{flat_map}
use Rattle.drawing.proofs.LayerLaws.{three}
use Rattle.draw_report.specs.Circles.{dot_text}
use Rattle.draw_report.specs.Seen.{all_balls}
use Rattle.draw_report.proofs.balls.put_centres.Goals as goal

pub returns : goal.returns
returns c =
    let balls = c.args.balls.now in
    let all : c.loop-b.b-index ≡ length balls = omega (arith, c.loop-b-test.false, c.loop-b.auto.b-index-end) in
    let whole = ap (λ k. take k balls) all ∙ take-length balls in
    three _ _ _ _ _ _ _ c.in_ok-put.ensures (c.loop-b.invariant ∙ ap (λ bs. c.put.new.self ++ flat_map dot_text (all_balls bs)) whole) c.in_ok-put-2.ensures
