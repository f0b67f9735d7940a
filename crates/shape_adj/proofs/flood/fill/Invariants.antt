use Rattle.std.proofs.Common.{◌+◌, length}
use Rattle.shape_adj.specs.Todo.{trues}
use Rattle.shape_adj.proofs.Labelling.{Filling}
use Rattle.shape_adj.proofs.flood.fill.Given as goal

abbrev pub invariant-loop-run : goal.invariant-loop-run
invariant-loop-run g l = Filling (g.N.RowNet.Holds l.fn.net) (g.N.RowNet.Adjacent l.fn.net) (g.N.RowNet.size l.fn.net) (g.N.RowNet.width l.fn.net) l.fn.s
    l.fn.label (g.L.LabelStore.Tells l.search.labels) l.fn.search.todo l.fn.search.work.items l.search.todo l.search.work.items

abbrev pub decreases-loop-run : goal.decreases-loop-run
decreases-loop-run g l = trues l.search.todo + length l.search.work.items
