use Rattle.std.proofs.Common.{◌-◌}
use Rattle.shape_adj.specs.Labels.{Searched}
use Rattle.shape_adj.proofs.flood.flood.Given as goal

abbrev pub invariant-loop-s : goal.invariant-loop-s
invariant-loop-s g l = Searched (g.N.RowNet.Holds l.net) (g.N.RowNet.Adjacent l.net) (g.N.RowNet.size l.net) (g.L.LabelStore.Tells l.search.labels)
    l.search.todo l.search.work.items l.from l.count

abbrev pub decreases-loop-s : goal.decreases-loop-s
decreases-loop-s g l = g.N.RowNet.size l.net - l.from
