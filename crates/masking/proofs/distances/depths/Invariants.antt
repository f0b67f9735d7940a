use Rattle.std.proofs.Common.{◌≡◌, take}
use Rattle.std.specs.List.{flat_map}
use Rattle.masking.specs.Pictures.{level, low_first}
use Rattle.masking.proofs.distances.depths.Given as goal

abbrev pub invariant-loop-i : goal.invariant-loop-i
invariant-loop-i l = l.out.items ≡ flat_map (λ s. low_first (level s)) (take l.i l.squares)
