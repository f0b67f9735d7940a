use Rattle.std.proofs.Common.{◌<◌, ℕ}
use Rattle.shape_adj.specs.Labels.{Entered, NoneBeside}
use Rattle.shape_adj.proofs.flood.spread.Given as goal

abbrev pub invariant-loop-k : goal.invariant-loop-k
invariant-loop-k g l = record {
  entered : Entered (g.N.RowNet.Holds l.fn.net) (g.N.RowNet.Adjacent l.fn.net) (g.N.RowNet.size l.fn.net) (g.N.RowNet.width l.fn.net) l.fn.run l.fn.label
      (g.L.LabelStore.Tells l.fn.search.labels) (g.L.LabelStore.Tells l.search.labels) l.fn.search.todo l.search.todo l.fn.search.work.items
      l.search.work.items;
  none : (j : ℕ) → j < l.k → NoneBeside (g.N.RowNet.width l.fn.net) (g.N.RowNet.reach l.fn.net) l.fn.run l.start (g.N.RowNet.beside l.fn.net l.start j)
      l.search.todo;
}
