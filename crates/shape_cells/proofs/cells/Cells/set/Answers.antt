use Rattle.std.proofs.Common.{arith}
use Rattle.shape_cells.proofs.Forms.{some_length, none_put}
use Rattle.shape_cells.proofs.cells.Cells.set.Goals as goal

pub put-requires-clause-within : goal.put-requires-clause-within
put-requires-clause-within g c =
    let n = some_length g.T.Cell.bare c.self.inside.objects c.self.inside.cells.items c.self.view_is c.in-Some.is in
    omega (arith, c.requires, n)

pub returns-in-None : goal.returns-in-None
returns-in-None g c =
    none_put g.T.Cell.bare c.self.inside.objects c.self.inside.cells.items c.self.view_is c.in-None.is c.args.place c.args.value c.requires
