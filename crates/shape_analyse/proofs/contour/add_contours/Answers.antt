use Rattle.std.proofs.Common.{arith, subst, sym}
use Rattle.shape_analyse.specs.Tallies.{HasSegments}
use Rattle.shape_analyse.proofs.TallyGrowth.{covers_more}
use Rattle.shape_analyse.proofs.contour.add_contours.Goals as goal

pub loop-k-preserved : goal.loop-k-preserved
loop-k-preserved c =
    let k = c.loop-k.k in
    let h = c.loop-k.invariant in
    let n = c.from.result in
    let more = c.in_ok-add_contour.ensures in
    let has = subst (HasSegments c.contour.result.now) (sym c.from.ensures) more.segments in (
      λ X before t. more.text X c.args.contours.now k before c.contour.ensures (h.0 X before t),
      covers_more c.args.contours.now k c.loop-k.segments n
          c.contour.result.now c.contour.ensures h.1 has,
      omega (arith, h.2, c.from.ensures, more.few),
    )
