use Rattle.std.proofs.Common.{◌≡◌, ◌/◌, ◌*◌, ◌<◌, ◌∙◌, length, ap, subst, arith}
use Rattle.shape_terms.specs.Points.{box_count}
use Rattle.shape_terms.specs.FramedBox.{framed_sides}
use Rattle.shape_dist.specs.Objects.{AreValuesTo}
use Rattle.shape_dist.specs.FirstAxis.{line_length}
use Rattle.shape_dist.proofs.Lists.{some_axes}
use Rattle.shape_dist.proofs.FirstLines.{length_is, line_by, all_lines}
use Rattle.shape_dist.proofs.objects.framed_values.Goals as goal

pub mark_line-requires-clause-line : goal.mark_line-requires-clause-line
mark_line-requires-clause-line g c =
    let X = c.args.grid.now in
    let s = c.sides-sides.ensures in
    let d : 0 < length X.sides = some_axes (length X.sides) g.P.Point.DIM s.picture.axes g.met.P.Point.two_or_three in
    let side : c.framed_side-side.result ≡ line_length X.sides = c.framed_side-side.ensures.value ∙ length_is _ ∙ ap line_length s.value in
    let all : c.framed_count-n.result ≡ box_count (framed_sides X.sides) = c.framed_count-n.ensures.value ∙ ap (λ s. box_count (framed_sides s)) s.value in
    line_by X c.loop-t.t c.framed_count-n.result c.framed_side-side.result d all side (omega arith)

pub returns-clause-values : goal.returns-clause-values
returns-clause-values g c =
    let X = c.args.grid.now in
    let n = c.framed_count-n.result in
    let w = c.framed_side-side.result in
    let s = c.sides-sides.ensures in
    let d : 0 < length X.sides = some_axes (length X.sides) g.P.Point.DIM s.picture.axes g.met.P.Point.two_or_three in
    let side : w ≡ line_length X.sides = c.framed_side-side.ensures.value ∙ length_is _ ∙ ap line_length s.value in
    let all : n ≡ box_count (framed_sides X.sides) = c.framed_count-n.ensures.value ∙ ap (λ s. box_count (framed_sides s)) s.value in
    let t : c.loop-t.t ≡ n / w = omega arith in
    let m : c.loop-t.t * w ≡ box_count (framed_sides X.sides) = ap (λ t. t * w) t ∙ all_lines X n w d all side ∙ all in
    subst (λ m. AreValuesTo X m c.loop-t.objects) m c.loop-t.invariant
