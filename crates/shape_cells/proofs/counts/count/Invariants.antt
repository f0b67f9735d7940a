use Rattle.std.proofs.Common.{◌≡◌, ◌*◌}
use Rattle.shape_cells.specs.Counting.{trues_before}
use Rattle.shape_cells.proofs.counts.count.Given as goal

abbrev pub invariant-loop-w : goal.invariant-loop-w
invariant-loop-w l = l.n ≡ trues_before l.values (64 * l.w)
