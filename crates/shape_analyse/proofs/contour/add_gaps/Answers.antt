use Rattle.std.proofs.Common.{◌≡◌, ◌+◌, ◌*◌, ◌<◌, ◌++◌, ◌∷◌, [], length, arith, subst, sym}
use Rattle.shape_terms.specs.Covers.{IsEvidence, gap_run}
use Rattle.report_terms.specs.Lines.{Line, IsLineOf}
use Rattle.shape_line.specs.Found.{stretches_of, found_at}
use Rattle.shape_refute.specs.Evidences.{evidence_of}
use Rattle.shape_analyse.specs.Growing.{IsOutlined, Stands, covered}
use Rattle.shape_analyse.proofs.Growth.{text_push, text_more, text_behind}
use Rattle.shape_analyse.proofs.FoundLines.{gap_fits, found_gap}
use Rattle.shape_analyse.proofs.contour.add_gaps.Goals as goal

pub add-requires : goal.add-requires
add-requires c =
    let found = c.args.cover.now in
    let j = c.loop-j.j in
    let l : j < length found = omega (arith, c.loop-j.auto.j-end, c.len-j-end.ensures, c.loop-j-test.true) in
    let cover = c.requires.1 in
    subst (λ v. IsLineOf 2 (Line.Gap 0 v)) (sym c.gap-gap.ensures.x)
    (gap_fits 0 (gap_run c.requires.0 (stretches_of found) j) (found_at found j).x (omega arith) (cover.gap_x j l) (cover.short_x j l))

pub add-requires-in-loop-j : goal.add-requires-in-loop-j
add-requires-in-loop-j c =
    let found = c.args.cover.now in
    let j = c.loop-j.j in
    let l : j < length found = omega (arith, c.loop-j.auto.j-end, c.len-j-end.ensures, c.loop-j-test.true) in
    let cover = c.requires.1 in
    subst (λ v. IsLineOf 2 (Line.Gap 1 v)) (sym c.gap-gap.ensures.y)
    (gap_fits 1 (gap_run c.requires.0 (stretches_of found) j) (found_at found j).y (omega arith) (cover.gap_y j l) (cover.short_y j l))

pub loop-j-preserved : goal.loop-j-preserved
loop-j-preserved c =
    let found = c.args.cover.now in
    let j = c.loop-j.j in
    let l : j < length found = omega (arith, c.loop-j.auto.j-end, c.len-j-end.ensures, c.loop-j-test.true) in
    let some = c.requires.1 in
    let gap = c.gap-gap.result in
    let is = c.gap-gap.ensures in
    let x_fits : IsLineOf 2 (Line.Gap 0 (evidence_of gap.x)) = subst (λ v. IsLineOf 2 (Line.Gap 0 v)) (sym is.x)
    (gap_fits 0 (gap_run c.requires.0 (stretches_of found) j) (found_at found j).x (omega arith) (some.gap_x j l) (some.short_x j l)) in
    let y_fits : IsLineOf 2 (Line.Gap 1 (evidence_of gap.y)) = subst (λ v. IsLineOf 2 (Line.Gap 1 v)) (sym is.y)
    (gap_fits 1 (gap_run c.requires.0 (stretches_of found) j) (found_at found j).y (omega arith) (some.gap_y j l) (some.short_y j l)) in
    λ X contours k contour before there cover o.
    let x_good = subst (IsEvidence 0 (gap_run contour.points (stretches_of found) j)) (sym is.x) (cover.gap_x j l) in
    let y_good = subst (IsEvidence 1 (gap_run contour.points (stretches_of found) j)) (sym is.y) (cover.gap_y j l) in
    let at : 2 * j ≡ 2 * j + 0 = omega arith in
    let h = c.loop-j.invariant X contours k contour before there cover o in
    let here = subst (λ g. IsOutlined X contours (covered k contour found g) h.lines) at h.so in
    let first = found_gap X contours k contour found j 0 (evidence_of gap.x) h.lines here there l (omega arith) x_good x_fits in
    let mid : 2 * j + 0 + 1 ≡ 2 * j + 1 = omega arith in
    let lines = h.lines ++ Line.Gap 0 (evidence_of gap.x) ∷ [] in
    let half = subst (λ g. IsOutlined X contours (covered k contour found g) lines) mid first in
    let one = text_push _ _ h.lines (Line.Gap 0 (evidence_of gap.x)) h.is (text_behind before _ _ c.in_ok-add.ensures.ok) in
    let second = found_gap X contours k contour found j 1 (evidence_of gap.y) lines half there l (omega arith) y_good y_fits in
    let last : 2 * j + 1 + 1 ≡ 2 * (j + 1) = omega arith in
    subst (λ g. Stands X contours (covered k contour found g) (before ++ c.add-in-loop-j.new.self)) last
    (text_more _ _ _ lines _ one (text_behind before _ _ c.in_ok-add-2.ensures.ok) second)

pub returns : goal.returns
returns c =
    let found = c.args.cover.now in
    let all : c.loop-j.j ≡ length found = omega (arith, c.loop-j.auto.j-end, c.len-j-end.ensures, c.loop-j-test.false) in
    λ X contours k contour before there cover o. subst (λ j. Stands X contours (covered k contour found (2 * j)) (before ++ c.loop-j.report)) all
    (c.loop-j.invariant X contours k contour before there cover o)
