use Rattle.std.proofs.Common.{◌≡◌, ◌∙◌, ap, sym, length}
use Rattle.shape_terms.specs.Points.{sides_of, box_count, raster_point}
use Rattle.shape_terms.proofs.ObjectPlaces.{length-raster_point}
use Rattle.shape_adj.specs.NearMasks.{near_total}
use Rattle.shape_topo.proofs.MaskCount.{mask_small}
use Rattle.shape_topo.proofs.mask.mask_at.Goals as goal

pub mask-requires-clause-filled : goal.mask-requires-clause-filled
mask-requires-clause-filled g c =
    ap length c.values.ensures ∙ c.is_picture.ensures.picture.filled ∙ ap box_count (sym c.requires.sides)

pub returns-then-is_inner_place-clause-few : goal.returns-then-is_inner_place-clause-few
returns-then-is_inner_place-clause-few g c =
    let s = sides_of (g.P.Point.coords c.args.near.now.sides.lengths) in
    let p = raster_point s c.args.i in
    let axes : length p ≡ g.P.Point.DIM = length-raster_point s c.args.i ∙ ap length c.requires.sides ∙ c.is_picture.ensures.picture.axes in
    mask_small (record { sides = s; values = c.values.result.now }) p c.mask.result g.P.Pairing.NEAR_COUNT c.mask.ensures
    (g.met.P.Pairing.near_total ∙ ap near_total (sym axes))
