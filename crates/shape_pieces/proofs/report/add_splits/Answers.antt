use Rattle.std.proofs.Common.{◌≡◌, length, arith, subst}
use Rattle.shape_pieces.specs.Growing.{HasSplits}
use Rattle.shape_pieces.proofs.report.add_splits.Goals as goal

pub loop-k-preserved : goal.loop-k-preserved
loop-k-preserved c = λ X are h. c.in_ok-add_split.ensures X c.loop-k.k (record { contours = c.args.contours.now; are = are; there = c.contour.ensures })
    (c.loop-k.invariant X are h)

pub returns : goal.returns
returns c =
    let all : c.loop-k.k ≡ length c.args.contours.now = omega (arith, c.loop-k.auto.k-end, c.len-k-end.ensures, c.loop-k-test.false) in
    λ X are h. subst (λ k. HasSplits X k c.loop-k.report) all (c.loop-k.invariant X are h)
