use Rattle.std.proofs.Common.{arith}
use Rattle.shape_cells.proofs.Forms.{some_length}
use Rattle.shape_cells.proofs.cells.Cells.take_lines.Goals as goal

pub take_lines-requires-clause-inside : goal.take_lines-requires-clause-inside
take_lines-requires-clause-inside g c = λ y l.
    let n = some_length g.T.Cell.bare c.self.inside.objects c.self.inside.cells.items c.self.view_is c.in-Some.is in
    let i = c.requires.inside y l in
    omega (arith, i, n)
