use Rattle.std.proofs.Common.{subst}
use Rattle.shape_cells.specs.Held.{IsBareElsewhere}
use Rattle.shape_cells.proofs.Forms.{bare_elsewhere}
use Rattle.shape_cells.proofs.cells.Cells.is_bare_elsewhere.Goals as goal

pub returns : goal.returns
returns g c = subst (IsBareElsewhere g.T.Cell.bare) c.self.view_is (bare_elsewhere g.T.Cell.bare c.self.inside.objects c.self.inside.cells.items)
