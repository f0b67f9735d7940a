use Rattle.std.proofs.Common.{◌≡◌, ◌≤◌, [], length, rules, arith, subst, ◌++◌}
use Rattle.report_terms.specs.Lines.{Line, IsLineOf}
use Rattle.shape_crack.specs.Terms.{point_of}
use Rattle.shape_analyse.specs.Growing.{Stands, at_contour}
use Rattle.shape_analyse.proofs.Growth.{text_more, text_behind}
use Rattle.shape_analyse.proofs.ContourGrowth.{outlined_begun, outlined_point}
use Rattle.shape_analyse.proofs.contour.add_outline.Goals as goal

pub loop-i-init : goal.loop-i-init
loop-i-init c =
    let start = c.start-start.result in
    let n = c.len.result in
    let m = c.args.segments in
    let fields : IsLineOf 2 (Line.Contour (point_of start.p) start.side n m) = search rules in
    let few : m ≤ n = omega (arith, c.requires.few, c.len.ensures.value) in
    λ X contours k before there h. text_more _ _ _ h.lines _ h.is (text_behind before _ _ c.in_ok-add.ensures.ok)
    (outlined_begun X contours k h.lines c.args.contour.now (point_of start.p) start.side n m h.so there c.start-start.ensures c.len.ensures.value
    c.requires.some few fields)

pub loop-i-preserved : goal.loop-i-preserved
loop-i-preserved c =
    let p = c.point.result in
    let m = c.args.segments in
    let fields : IsLineOf 2 (Line.At (point_of p)) = search rules in
    λ X contours k before there h.
    let o = c.loop-i.invariant X contours k before there h in
    text_more _ _ _ o.lines _ o.is (text_behind before _ _ c.in_ok-add-2.ensures.ok)
    (outlined_point X contours k c.loop-i.i m o.lines c.args.contour.now (point_of p) o.so there c.point.ensures.value fields)

pub returns : goal.returns
returns c =
    let all : c.loop-i.i ≡ length c.args.contour.now.points = omega (arith, c.loop-i-test.false, c.loop-i.auto.i-end, c.len-i-end.ensures.value) in
    λ X contours k before there h. subst (λ i. Stands X contours (at_contour k i c.args.segments [] 0) (before ++ c.loop-i.report)) all
    (c.loop-i.invariant X contours k before there h)
