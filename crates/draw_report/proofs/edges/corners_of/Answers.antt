use Rattle.std.proofs.Common.{◌≡◌, length, take, ap, ◌∙◌, arith}
use Rattle.std.proofs.Math.Seq.{take-length}
use Rattle.draw_report.proofs.CornerLaws.{corners_more}
use Rattle.draw_report.proofs.edges.corners_of.Goals as goal

pub loop-i-preserved : goal.loop-i-preserved
loop-i-preserved c = corners_more c.args.path.now c.loop-i.i c.corner.result _ _ c.loop-i.invariant c.corner.ensures c.in_ok-push.ensures.items

pub returns : goal.returns
returns c =
    let path = c.args.path.now in
    let count = c.len-i-end.ensures.value in
    let all : c.loop-i.i ≡ length path = omega arith in
    c.loop-i.invariant ∙ ap (λ i. take i path) all ∙ take-length path
