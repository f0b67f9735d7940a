use Rattle.std.proofs.Common.{◌≡◌, length, ◌∙◌}
use Rattle.shape_cells.proofs.Forms.{none_first}
use Rattle.shape_cells.proofs.cells.Cells.first_from.Goals as goal

pub returns-in-None : goal.returns-in-None
returns-in-None g c =
    let n : c.len.result ≡ length c.self.inside.cells.items = c.len.ensures ∙ c.self.inside.cells.ok.0 in
    rw (c.then_some.ensures, n) (none_first g.T.Cell.bare c.self.inside.objects c.self.inside.cells.items c.self.view_is c.in-None.is c.args.from)
