use Rattle.std.proofs.Common.{arith}
use Rattle.shape_cells.proofs.squares.lent.Goals as goal

pub returns-clause-few : goal.returns-clause-few
returns-clause-few c = λ k. let t = c.type_inv.short k in omega arith
