use Rattle.std.proofs.Common.{◌++◌, append-nil, length, refl, sym, subst, ap, ◌∙◌}
use Rattle.shape_terms.specs.Pictures.{object_points}
use Rattle.shape_analyse.specs.Growing.{aim_of, IsTextOf, HasOutlined}
use Rattle.shape_analyse.proofs.Growth.{text_as}
use Rattle.shape_analyse.proofs.ContourGrowth.{contour_starts, outlined_none, outlined_done}
use Rattle.shape_analyse.proofs.outline.P2Outlined.outline.Goals as goal

pub add_contours-requires : goal.add_contours-requires
add_contours-requires c = record { sides = contour_starts c.args.grid.now c.in_ok-contours.contours c.in_ok-contours.ensures }

pub returns-clause-extent : goal.returns-clause-extent
returns-clause-extent c = (
  c.is_picture.ensures.picture.axes,
  record { contours = c.in_ok-contours.contours; are = c.in_ok-contours.ensures; n_is = c.len.ensures; covers = c.in_ok-segments.ensures.segments },
)

pub returns-clause-text : goal.returns-clause-text
returns-clause-text c =
    let X = c.args.grid.now in
    let contours = c.in_ok-contours.contours in
    λ shelf name by before h.
    let aim = aim_of X shelf name by in
    let none = text_as (λ lines g. outlined_none aim (length (object_points X)) lines contours g refl c.is_picture.ensures.picture.axes
    c.in_ok-contours.ensures) h in
    let first = subst (IsTextOf (HasOutlined aim contours 0)) (sym (append-nil before) ∙ ap (λ t. before ++ t) (sym c.new-lines.ensures)) none in
    text_as (λ lines o. outlined_done aim contours lines o) (c.in_ok-segments.ensures.text aim before first)
