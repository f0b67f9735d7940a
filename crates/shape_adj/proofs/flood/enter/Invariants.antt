use Rattle.std.proofs.Common.{◌-◌, ◌<◌, ◌≤◌, ℕ}
use Rattle.shape_adj.specs.Labels.{InRun, Entered}
use Rattle.shape_adj.specs.Todo.{Marked}
use Rattle.shape_adj.proofs.flood.enter.Given as goal

abbrev pub invariant-loop-q : goal.invariant-loop-q
invariant-loop-q g l = record {
  entered : Entered (g.N.RowNet.Holds l.fn.net) (g.N.RowNet.Adjacent l.fn.net) (g.N.RowNet.size l.fn.net) (g.N.RowNet.width l.fn.net) l.fn.run l.fn.label
      (g.L.LabelStore.Tells l.fn.search.labels) (g.L.LabelStore.Tells l.search.labels) l.fn.search.todo l.search.todo l.fn.search.work.items
      l.search.work.items;
  on : l.q < l.fn.window.until → l.fn.window.from ≤ l.q;
  there : l.q < l.fn.window.until → Marked l.search.todo l.q;
  none : (x : ℕ) → InRun l.fn.window x → x < l.q → Marked l.search.todo x → ⊥;
}

abbrev pub decreases-loop-q : goal.decreases-loop-q
decreases-loop-q g l = l.fn.window.until - l.q
