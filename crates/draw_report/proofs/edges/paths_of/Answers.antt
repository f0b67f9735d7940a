use Rattle.std.proofs.Common.{◌≡◌, length, take, ap, ◌∙◌, arith}
use Rattle.std.proofs.Math.Seq.{take-length}
use Rattle.draw_report.specs.Corners.{paths_of}
use Rattle.draw_report.proofs.CornerLaws.{paths_more}
use Rattle.draw_report.proofs.edges.paths_of.Goals as goal

pub loop-k-preserved : goal.loop-k-preserved
loop-k-preserved c = paths_more c.args.cycles.now c.loop-k.k c.cycle.result.now c.in_ok-path.path _ _ c.loop-k.invariant c.cycle.ensures
    (c.in_ok-path.ensures ∙ c.path.ensures) c.in_ok-push.ensures.items

pub returns : goal.returns
returns c =
    let cycles = c.args.cycles.now in
    let count = c.len-k-end.ensures in
    let all : c.loop-k.k ≡ length cycles = omega arith in
    c.loop-k.invariant ∙ ap (λ k. paths_of (take k cycles)) all ∙ ap paths_of (take-length cycles)
