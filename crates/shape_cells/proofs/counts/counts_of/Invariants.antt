use Rattle.std.proofs.Common.{◌≡◌, ◌*◌}
use Rattle.shape_cells.specs.Counting.{trues_before}
use Rattle.shape_cells.proofs.BitCounts.{AreCountsTo}
use Rattle.shape_cells.proofs.counts.counts_of.Given as goal

abbrev pub invariant-loop-w : goal.invariant-loop-w
invariant-loop-w l = (l.n ≡ trues_before l.values (64 * l.w)) × AreCountsTo l.values l.w l.counts.items
