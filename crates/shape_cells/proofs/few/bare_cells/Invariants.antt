use Rattle.std.proofs.Common.{◌-◌, length}
use Rattle.shape_cells.proofs.HeldLaws.{AreFilled}
use Rattle.shape_cells.proofs.few.bare_cells.Given as goal

abbrev pub invariant-loop-place : goal.invariant-loop-place
invariant-loop-place g l = AreFilled g.T.Cell.bare l.objects l.cells.items l.from

abbrev pub decreases-loop-place : goal.decreases-loop-place
decreases-loop-place g l = length l.objects - l.from
