use Rattle.shape_cells.proofs.Forms.{none_has}
use Rattle.shape_cells.proofs.cells.Cells.numbering.Goals as goal

pub returns-in-None : goal.returns-in-None
returns-in-None g c = none_has g.T.Cell.bare c.self.inside.objects c.self.inside.cells.items c.self.view_is c.in-None.is
