use Rattle.std.proofs.Common.{◌≡◌, take}
use Rattle.std.specs.List.{flat_map}
use Rattle.masking.specs.Pictures.{told_square, low_first32}
use Rattle.masking.proofs.squares.square_bytes.Given as goal

abbrev pub invariant-loop-i : goal.invariant-loop-i
invariant-loop-i l = l.out.items ≡ flat_map (λ s. low_first32 (told_square s)) (take l.i l.squares)
