use Rattle.std.proofs.Common.{◌-◌, ◌*◌, ◌<◌, arith, sym, ◌∙◌}
use Rattle.judge_field.proofs.LeastTests.{too_far}
use Rattle.judge_field.proofs.least.is_distance.Goals as goal

pub returns-in-None : goal.returns-in-None
returns-in-None g c =
    let h = c.in-None.ensures in
    let a = g.met.P.Point.axes c.args.p in
    let b = g.met.P.Point.axes c.args.q in
    let gap = c.gap_on-gap.result in
    let less : c.loop-k.left < gap * gap = omega (arith, h) in (
      λ f. cc,
      λ same. absurd
          (too_far (g.P.Point.coords c.args.p) (g.P.Point.coords c.args.q) c.loop-k.k (c.loop-k.k - 1) c.loop-k.left c.args.s gap (omega arith) (omega arith)
          (a ∙ sym b) c.gap_on-gap.ensures.value c.loop-k.invariant less same),
    )
