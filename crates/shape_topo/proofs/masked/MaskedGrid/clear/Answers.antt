use Rattle.std.proofs.Common.{◌<◌, arith, ap, ◌∙◌}
use Rattle.shape_terms.specs.Points.{box_count, raster_point}
use Rattle.shape_terms.specs.Pictures.{Picture}
use Rattle.shape_terms.specs.Thinning.{without}
use Rattle.shape_topo.proofs.Cleared.{cleared_is}
use Rattle.shape_topo.proofs.masked.MaskedGrid.clear.Goals as goal

pub returns : goal.returns
returns g c =
    let Y = c.self.inside.grid in
    let below : c.args.i < box_count Y.sides = omega (arith, c.requires, ap (λ (Y : Picture). box_count Y.sides) c.self.view_is) in
    c.clear_number.ensures ∙ (cleared_is Y c.args.i below ∙ ap (λ (Y : Picture). without Y (raster_point Y.sides c.args.i)) c.self.view_is)
