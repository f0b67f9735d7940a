use Rattle.std.proofs.Common.{◌≡◌, map, take}
use Rattle.masking.specs.Pictures.{told_square}
use Rattle.masking.proofs.thickness.told_squares.Given as goal

abbrev pub invariant-loop-i : goal.invariant-loop-i
invariant-loop-i l = l.told.items ≡ map told_square (take l.i l.squares)
