use Rattle.shape_analyse.proofs.Growth.{text_as}
use Rattle.shape_analyse.proofs.FaceGrowth.{patch_done}
use Rattle.shape_analyse.proofs.faces.add_patch.Goals as goal

pub returns : goal.returns
returns c = λ X f found left before are h.
    let head = c.in_ok-add_head.ensures X f found left before are h in
    let points = c.in_ok-add_points.ensures X f found left before are head in
    text_as (λ lines o. patch_done X f found left c.args.patch.now.found are lines o) (c.in_ok-add_refused.ensures X f found left before are points)
