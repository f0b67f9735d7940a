use Rattle.std.proofs.Common.{subst, refl, ap, ◌∙◌, take}
use Rattle.std.proofs.Math.Facts.{to_z-of_z}
use Rattle.report_terms.specs.Kinds.{Kind}
use Rattle.shape_report.specs.Spelling.{kind_text}
use Rattle.report_terms.specs.Lines.{IsLineOf}
use Rattle.shape_report.specs.LineOf.{line_of}
use Rattle.shape_report.proofs.Claims.{gap_range, gap_text}
use Rattle.shape_report.proofs.spell.put_line.Goals as goal

pub put_shape-requires-clause-number : goal.put_shape-requires-clause-number
put_shape-requires-clause-number g c = (subst (λ l. IsLineOf g.P.Point.DIM (line_of g.P.Point.coords l)) c.in-Shape.is c.requires.range).0

pub put_near-requires-clause-weight : goal.put_near-requires-clause-weight
put_near-requires-clause-weight g c = (subst (λ l. IsLineOf g.P.Point.DIM (line_of g.P.Point.coords l)) c.in-Near.is c.requires.range).1.1

pub put_seg-requires-clause-axis : goal.put_seg-requires-clause-axis
put_seg-requires-clause-axis g c = (subst (λ l. IsLineOf g.P.Point.DIM (line_of g.P.Point.coords l)) c.in-Seg.is c.requires.range).1.1.1.0

pub put_gap-requires-clause-range : goal.put_gap-requires-clause-range
put_gap-requires-clause-range g c = gap_range g.P.Point.DIM c.in-Gap.axis c.in-Gap.refusal
    (subst (λ l. IsLineOf g.P.Point.DIM (line_of g.P.Point.coords l)) c.in-Gap.is c.requires.range)

pub put_face-requires-clause-axis : goal.put_face-requires-clause-axis
put_face-requires-clause-axis g c = (subst (λ l. IsLineOf g.P.Point.DIM (line_of g.P.Point.coords l)) c.in-Face.is c.requires.range).1.0

pub put_off-requires-clause-range : goal.put_off-requires-clause-range
put_off-requires-clause-range g c = (subst (λ l. IsLineOf g.P.Point.DIM (line_of g.P.Point.coords l)) c.in-Off.is c.requires.range).1.1

pub returns-in-Shape : goal.returns-in-Shape
returns-in-Shape g c = rw c.in-Shape.is c.put_shape.ensures

pub returns-in-Parts : goal.returns-in-Parts
returns-in-Parts g c = rw c.in-Parts.is c.put_parts.ensures

pub returns-in-Near : goal.returns-in-Near
returns-in-Near g c = rw c.in-Near.is c.put_near.ensures

pub returns-in-Contour : goal.returns-in-Contour
returns-in-Contour g c = rw c.in-Contour.is c.put_contour.ensures

pub returns-in-At : goal.returns-in-At
returns-in-At g c = rw c.in-At.is c.put_at.ensures

pub returns-in-Seg : goal.returns-in-Seg
returns-in-Seg g c = rw c.in-Seg.is c.put_seg.ensures

pub returns-in-Least : goal.returns-in-Least
returns-in-Least g c = rw c.in-Least.is c.put_least.ensures

pub returns-in-Gap : goal.returns-in-Gap
returns-in-Gap g c = rw c.in-Gap.is (c.put_gap.ensures ∙ gap_text g.P.Point.DIM c.in-Gap.axis c.in-Gap.refusal)

pub returns-in-Face : goal.returns-in-Face
returns-in-Face g c = rw c.in-Face.is c.put_face.ensures

pub returns-in-Patch : goal.returns-in-Patch
returns-in-Patch g c =
    let l = c.in-Patch in
    let same = to_z-of_z (subst (λ x. IsLineOf g.P.Point.DIM (line_of g.P.Point.coords x)) l.is c.requires.range).1.1.1 in
    rw l.is (c.put_patch.ensures ∙ ap (λ z. kind_text 3 Kind.Patch (l.points, (take 3 l.a, z))) same)

pub returns-in-On : goal.returns-in-On
returns-in-On g c = rw c.in-On.is c.put_on.ensures

pub returns-in-Off : goal.returns-in-Off
returns-in-Off g c = rw c.in-Off.is c.put_off.ensures

pub returns-in-Del : goal.returns-in-Del
returns-in-Del g c = rw c.in-Del.is c.put_del.ensures

pub returns-in-Tip : goal.returns-in-Tip
returns-in-Tip g c = rw c.in-Tip.is c.put_tip.ensures

pub returns-in-Kept : goal.returns-in-Kept
returns-in-Kept g c = rw c.in-Kept.is c.put_kept.ensures

pub returns-in-End : goal.returns-in-End
returns-in-End g c = rw (c.in-End.is, c.put.ensures, c.requires.empty) refl
