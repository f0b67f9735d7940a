use Rattle.std.proofs.Common.{◌≡◌, take}
use Rattle.shape_cells.proofs.squares.widened.Given as goal

abbrev pub invariant-loop-square : goal.invariant-loop-square
invariant-loop-square l = l.long.items ≡ take l.square-index l.square-items
