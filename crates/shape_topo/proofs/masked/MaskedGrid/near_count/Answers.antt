use Rattle.shape_terms.specs.Points.{raster_point}
use Rattle.shape_topo.proofs.MaskCount.{ones_are}
use Rattle.shape_topo.proofs.masked.MaskedGrid.near_count.Goals as goal

pub returns : goal.returns
returns g c = ones_are c.args.self.now (raster_point c.args.self.now.sides c.args.i) c.mask.result c.mask.ensures.mask
