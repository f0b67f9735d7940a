use Rattle.std.proofs.Common.{sym, ◌∙◌}
use Rattle.shape_cells.proofs.HeldLaws.{object_put, other_put}
use Rattle.shape_cells.proofs.few.put.Goals as goal

pub returns-then-has : goal.returns-then-has
returns-then-has g c = rw c.number.ensures (
    object_put g.T.Cell.bare c.args.objects.now c.args.cells.now c.requires.all c.args.place c.args.value (sym c.has.ensures ∙ c.if-has.true))

pub returns-else-has : goal.returns-else-has
returns-else-has g c = other_put g.T.Cell.bare c.args.objects.now c.args.cells.now c.args.place c.args.value (sym c.has.ensures ∙ c.if-has.false)
