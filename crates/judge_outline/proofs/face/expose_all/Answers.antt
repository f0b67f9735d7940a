use Rattle.std.proofs.Common.{◌∙◌, ◌%◌, ℕ, ap}
use Rattle.std.specs.Prelude.{◌==◌}
use Rattle.shape_terms.specs.Patches.{Sense}
use Rattle.report_terms.specs.FaceFacts.{face_axis}
use Rattle.shape_adj.specs.FacePoints.{sense_up, exposed_at}
use Rattle.judge_outline.proofs.LeftPoints.{exposed_all, face_up}
use Rattle.judge_outline.proofs.face.expose_all.Goals as goal

pub returns-clause-points : goal.returns-clause-points
returns-clause-points c =
    let X = c.args.grid.now in
    let f = c.args.face in
    exposed_all X f c.expose.new.exposed c.expose.ensures.box_
    (λ q. c.expose.ensures.points q ∙ ap (λ (t : ℕ). exposed_at X t (sense_up (f % 2 == 1)) q) c.axis_of.ensures.value
    ∙ ap (λ (s : Sense). exposed_at X (face_axis f) s q) (face_up f))
