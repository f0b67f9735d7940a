use Rattle.std.proofs.Common.{arith}
use Rattle.shape_cells.proofs.Forms.{some_length, none_has}
use Rattle.shape_cells.proofs.cells.Cells.first_before.Goals as goal

pub first_before-requires-clause-within : goal.first_before-requires-clause-within
first_before-requires-clause-within g c =
    let n = some_length g.T.Cell.bare c.self.inside.objects c.self.inside.cells.items c.self.view_is c.in-Some.is in
    let l = c.requires.within in
    omega (arith, l, n)

pub returns-in-None : goal.returns-in-None
returns-in-None g c =
    let l = c.requires.within in
    record {
      on = omega arith;
      within = c.requires.ordered;
      each = λ i h k. absurd (omega arith);
      stop = λ h. none_has g.T.Cell.bare c.self.inside.objects c.self.inside.cells.items c.self.view_is c.in-None.is c.args.from (omega (arith, h, l));
    }
