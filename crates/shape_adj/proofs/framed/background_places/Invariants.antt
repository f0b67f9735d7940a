use Rattle.std.proofs.Common.{◌-◌, length}
use Rattle.shape_adj.proofs.ObjectRows.{IsCleared}
use Rattle.shape_adj.proofs.framed.background_places.Given as goal

abbrev pub invariant-loop-i : goal.invariant-loop-i
invariant-loop-i g l = IsCleared l.grid l.from l.places

abbrev pub decreases-loop-i : goal.decreases-loop-i
decreases-loop-i g l = length l.grid.values - l.from
