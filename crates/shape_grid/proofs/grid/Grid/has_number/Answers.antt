use Rattle.std.proofs.Common.{false, get_or, sym, ap, ◌∙◌}
use Rattle.shape_terms.specs.Pictures.{Picture}
use Rattle.shape_terms.proofs.BoxLists.{at_raster_point}
use Rattle.shape_grid.proofs.grid.Grid.has_number.Goals as goal

pub returns : goal.returns
returns g c = c.get.ensures ∙ ap (λ (X : Picture). get_or X.values c.args.i false) c.self.view_is ∙ sym (at_raster_point c.args.self.now c.args.i c.requires)
