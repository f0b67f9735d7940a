use Rattle.std.proofs.Common.{◌++◌, append-nil, refl, sym, subst, ap, ◌∙◌}
use Rattle.shape_analyse.specs.Growing.{aim_of, IsTextOf}
use Rattle.shape_analyse.specs.Facing.{HasFaces}
use Rattle.shape_analyse.proofs.Growth.{text_as}
use Rattle.shape_analyse.proofs.FaceGrowth.{faces_none, surveyed_solid}
use Rattle.shape_analyse.proofs.outline.P3Outlined.outline.Goals as goal

pub returns-clause-extent : goal.returns-clause-extent
returns-clause-extent c = (c.is_picture.ensures.picture.axes, c.in_ok-exposed.ensures.exposed)

pub returns-clause-text : goal.returns-clause-text
returns-clause-text c = λ shelf name by before h.
    let aim = aim_of c.args.grid.now shelf name by in
    let none = text_as (λ lines g. faces_none aim lines c.is_picture.ensures.picture.axes g) h in
    let first = subst (IsTextOf (HasFaces aim 0)) (sym (append-nil before) ∙ ap (λ t. before ++ t) (sym c.new-lines.ensures)) none in
    text_as (λ lines g. surveyed_solid aim lines g) (c.in_ok-exposed.ensures.text aim before refl first)
