use Rattle.std.proofs.Common.{◌≡◌}
use Rattle.shape_adj.specs.Labels.{relabelled}
use Rattle.shape_adj.proofs.store.VecU32LabelStore.put.Given as goal

abbrev pub invariant-loop-i : goal.invariant-loop-i
invariant-loop-i l = l.self.items ≡ relabelled l.fn.self.items l.fn.run.from l.i l.fn.label
