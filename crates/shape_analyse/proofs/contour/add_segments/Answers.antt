use Rattle.std.proofs.Common.{◌≡◌, ◌<◌, ◌^◌, ◌++◌, ◌∷◌, [], length, take, rules, arith, ap, subst, sym, ◌∙◌}
use Rattle.std.proofs.lemmas.List.{length-map, take_all}
use Rattle.report_terms.specs.Lines.{Line, line_text, IsLineOf}
use Rattle.shape_refute.specs.Terms.{naive_of}
use Rattle.shape_refute.specs.PairTerms.{pairs_of}
use Rattle.shape_line.specs.Found.{Found, stretches_of, found_at, IsShortLine}
use Rattle.shape_analyse.specs.Growing.{Stands, at_contour}
use Rattle.shape_analyse.proofs.Growth.{text_push, text_more, text_behind}
use Rattle.shape_analyse.proofs.FoundLines.{segment_fits, segment_at, segment_line, found_segment, found_least}
use Rattle.shape_analyse.proofs.contour.add_segments.Goals as goal

pub add-requires : goal.add-requires
add-requires c =
    let s = c.segment-segment.result in
    let found = c.args.cover.now in
    let l : c.loop-j.j < length found = omega (arith, c.loop-j.auto.j-end, c.len-j-end.ensures, c.loop-j-test.true) in
    let b : s.first < 2 ^ 32 = search rules in
    let e : s.last < 2 ^ 32 = search rules in
    let cover = c.requires.1 in
    segment_fits s.first s.last s.line.axis (naive_of 2 s.line) b e (omega (arith, cover.axis c.loop-j.j l, c.segment-segment.ensures.axis))
    (subst IsShortLine (sym c.segment-segment.ensures.line) (cover.line c.loop-j.j l))

pub loop-j-preserved : goal.loop-j-preserved
loop-j-preserved c =
    let s = c.segment-segment.result in
    let found = c.args.cover.now in
    let j = c.loop-j.j in
    let l : j < length found = omega (arith, c.loop-j.auto.j-end, c.len-j-end.ensures, c.loop-j-test.true) in
    let f = found_at found j in
    let is = c.segment-segment.ensures in
    let b : s.first < 2 ^ 32 = search rules in
    let e : s.last < 2 ^ 32 = search rules in
    let some = c.requires.1 in
    let same : Line.Seg s.first s.last s.line.axis (naive_of 2 s.line).a (naive_of 2 s.line).mu ≡ segment_line (segment_at found j) =
    λ i. Line.Seg (is.places i).first (is.places i).last (is.axis i) (is.line i).a (is.line i).mu in
    let fields : IsLineOf 2 (segment_line (segment_at found j)) =
    subst (IsLineOf 2) same
    (segment_fits s.first s.last s.line.axis (naive_of 2 s.line) b e (omega (arith, some.axis j l, is.axis))
    (subst IsShortLine (sym is.line) (some.line j l))) in
    let bounds = c.bounds-bounds.result in
    let pairs = pairs_of bounds in
    let few : IsLineOf 2 (Line.Least pairs) = search rules in
    let new = c.in_ok-add.ensures.ok ∙ ap (λ m. c.loop-j.report ++ line_text m) same in
    λ X contours k contour before there cover o.
    let h = c.loop-j.invariant X contours k contour before there cover o in
    let lines = h.lines ++ segment_line (segment_at found j) ∷ [] in
    let one = text_push _ _ h.lines (segment_line (segment_at found j)) h.is (text_behind before _ _ new) in
    let first = found_segment X contours k contour found j h.lines h.so there cover l fields in
    text_more _ _ _ lines _ one (text_behind before _ _ c.in_ok-add-2.ensures.ok)
    (found_least X contours k contour found j pairs lines first there cover l c.bounds-bounds.ensures few)

pub returns : goal.returns
returns c =
    let found = c.args.cover.now in
    let all : take c.loop-j.j (stretches_of found) ≡ stretches_of found =
    take_all c.loop-j.j (stretches_of found)
    (omega (arith, c.loop-j.auto.j-end, c.len-j-end.ensures, c.loop-j-test.false, length-map found (λ (f : Found). f.stretch))) in
    λ X contours k contour before there cover o.
    subst (λ ss. Stands X contours (at_contour k (length contour.points) (length found) ss 0) (before ++ c.loop-j.report)) all
    (c.loop-j.invariant X contours k contour before there cover o)
