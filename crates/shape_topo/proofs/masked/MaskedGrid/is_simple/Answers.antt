use Rattle.std.proofs.Common.{◌≡◌, length, ap, sym, ◌∙◌}
use Rattle.shape_terms.specs.Points.{raster_point}
use Rattle.shape_terms.specs.Pictures.{Picture}
use Rattle.shape_terms.proofs.ObjectPlaces.{length-raster_point}
use Rattle.shape_topo.proofs.MaskNumbers.{simple_is}
use Rattle.shape_topo.proofs.masked.MaskedGrid.is_simple.Goals as goal

pub returns-clause-simple : goal.returns-clause-simple
returns-clause-simple g c =
    let Y = c.args.self.now in
    let p = raster_point Y.sides c.args.i in
    let space = length-raster_point Y.sides c.args.i in
    let axes : length p ≡ g.P.Point.DIM = space ∙ (ap (λ (Y : Picture). length Y.sides) (sym c.self.view_is) ∙ c.is_picture.ensures.picture.axes) in
    let b = simple_is Y p c.mask.result space c.mask.ensures.mask in
    let s = rw axes at b in
    ((λ t. s.0 (c.simple_mask.ensures.simple.0 t)), λ h. c.simple_mask.ensures.simple.1 (s.1 h))
