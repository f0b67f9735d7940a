use Rattle.std.proofs.Common.{◌≡◌, ◌++◌, take}
use Rattle.std.specs.List.{flat_map}
use Rattle.masking.specs.Pictures.{level, high_first}
use Rattle.masking.proofs.distances.put_levels.Given as goal

abbrev pub invariant-loop-i : goal.invariant-loop-i
invariant-loop-i l = l.out.items ≡ l.initial.out.items ++ flat_map (λ s. high_first (level s)) (take l.i l.squares)
