use Rattle.std.proofs.Common.{length, subst, sym, ◌∙◌, arith, ◌++◌}
use Rattle.std.proofs.lemmas.List.{length-map}
use Rattle.shape_line.specs.Found.{Found, stretches_of}
use Rattle.shape_analyse.specs.Growing.{Stands, outlined}
use Rattle.shape_analyse.proofs.Growth.{text_as}
use Rattle.shape_analyse.proofs.ContourGrowth.{outlined_full}
use Rattle.shape_analyse.proofs.contour.add_contour.Goals as goal

pub returns-clause-segments : goal.returns-clause-segments
returns-clause-segments c =
    (stretches_of c.in_ok-cover.cover, c.in_ok-cover.ensures.cover, c.len-segments.ensures ∙ sym (length-map c.in_ok-cover.cover (λ (f : Found). f.stretch)))

pub returns-clause-few : goal.returns-clause-few
returns-clause-few c = omega (arith, c.len-segments.ensures, c.in_ok-cover.ensures.few, c.is_closed_path.ensures.few)

pub returns-clause-text : goal.returns-clause-text
returns-clause-text c =
    let contour = c.args.contour.now in
    let found = c.in_ok-cover.cover in
    let cover = c.in_ok-cover.ensures in
    λ X contours k before there h.
    let outline = c.in_ok-add_outline.ensures X contours k before there h in
    let declared = subst (λ m. Stands X contours (outlined k contour m) (before ++ c.add_outline.new.report)) c.len-segments.ensures outline in
    let segments = c.in_ok-add_segments.ensures X contours k contour before there cover declared in
    let gaps = c.in_ok-add_gaps.ensures X contours k contour before there cover segments in
    text_as (λ lines o. outlined_full X contours k (length found) (stretches_of found) lines contour there (length-map found (λ (f : Found). f.stretch)) o) gaps
