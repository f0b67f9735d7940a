use Rattle.std.proofs.Common.{ap, ◌∙◌, arith}
use Rattle.shape_cells.specs.Held.{value_at}
use Rattle.shape_cells.proofs.Forms.{some_length, some_read, none_read}
use Rattle.shape_cells.proofs.cells.Cells.get.Goals as goal

pub value-requires-clause-within : goal.value-requires-clause-within
value-requires-clause-within g c =
    let n = some_length g.T.Cell.bare c.self.inside.objects c.self.inside.cells.items c.self.view_is c.in-Some.is in
    omega (arith, c.requires, n)

pub returns-in-Some : goal.returns-in-Some
returns-in-Some g c = some_read g.T.Cell.bare c.self.inside.objects c.self.inside.cells.items c.self.view_is c.in-Some.is c.args.place c.value.result c.requires
    (c.value.ensures ∙ ap (λ x. value_at g.T.Cell.bare c.in-Some.objects x c.args.place) c.as_slice.ensures.value)

pub returns-in-None : goal.returns-in-None
returns-in-None g c =
    none_read g.T.Cell.bare c.self.inside.objects c.self.inside.cells.items c.self.view_is c.in-None.is c.args.place c.index.result.now c.requires
    c.index.ensures
