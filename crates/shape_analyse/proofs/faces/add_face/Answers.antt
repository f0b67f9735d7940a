use Rattle.std.proofs.Common.{◌≡◌, [], ◌++◌, length, rules, subst, sym, ◌∙◌}
use Rattle.shape_terms.specs.Pictures.{Picture}
use Rattle.shape_terms.specs.Patches.{exposed_points}
use Rattle.report_terms.specs.FaceFacts.{face_axis, face_sense}
use Rattle.report_terms.specs.Lines.{Line, line_text, IsLineOf}
use Rattle.shape_refute.specs.Senses.{sense_of}
use Rattle.shape_plane.specs.Faces.{IsFace}
use Rattle.shape_plane.proofs.Exposing.{face_count}
use Rattle.shape_analyse.specs.Facing.{AreFound}
use Rattle.shape_analyse.proofs.Growth.{text_more, text_behind}
use Rattle.shape_analyse.proofs.FaceGrowth.{found_none, face_begun}
use Rattle.shape_analyse.proofs.faces.add_face.Goals as goal

pub returns-clause-exposed : goal.returns-clause-exposed
returns-clause-exposed c =
    let X = c.args.grid.now in
    let f = c.args.face in
    let left = c.in_ok-parting.parting.left in
    let there : IsFace X (face_axis f) (face_sense f) left = subst (λ s. IsFace X (face_axis f) s left) c.sense_in-sense.ensures c.in_ok-parting.ensures.left in
    c.count-points.ensures ∙ face_count X (face_axis f) (face_sense f) left there

pub returns-clause-text : goal.returns-clause-text
returns-clause-text c =
    let f = c.args.face in
    let left = c.in_ok-parting.parting.left in
    let n = c.count-points.result in
    let sense = c.sense_in-sense in
    let there : IsFace c.args.grid.now (face_axis f) (face_sense f) left = subst (λ s. IsFace c.args.grid.now (face_axis f) s left) sense.ensures
    c.in_ok-parting.ensures.left in
    let own : IsLineOf 3 (Line.Face (face_axis f) (sense_of sense.result) n) = search rules in
    let fields = subst (λ s. IsLineOf 3 (Line.Face (face_axis f) s n)) sense.ensures own in
    let text = subst (λ s. c.add.new.self ≡ c.args.report.now ++ line_text (Line.Face (face_axis f) s n)) sense.ensures c.in_ok-add.ensures.ok in
    λ X before same h.
    let Y = X.subject.picture in
    let face : IsFace Y (face_axis f) (face_sense f) left = subst (λ (Z : Picture). IsFace Z (face_axis f) (face_sense f) left) (sym same) there in
    let are : AreFound X f [] left = found_none X f left c.requires face in
    let count : n ≡ length (exposed_points Y (face_axis f) (face_sense f)) = c.count-points.ensures ∙ face_count Y (face_axis f) (face_sense f) left face in
    let begun = text_more _ _ _ h.lines (Line.Face (face_axis f) (face_sense f) n) h.is (text_behind before _ _ text)
    (face_begun X f h.lines n h.so c.requires count fields) in
    c.in_ok-add_patches.ensures X f before c.in_ok-parting.ensures.axis are begun
