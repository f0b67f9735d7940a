use Rattle.std.proofs.Common.{◌≡◌, ◌*◌, ◌++◌, map}
use Rattle.std.specs.List.{range_with_len}
use Rattle.masking.specs.Pictures.{eight}
use Rattle.masking.proofs.bits.put_row.Given as goal

abbrev pub invariant-loop-k : goal.invariant-loop-k
invariant-loop-k l = l.out.items ≡ l.initial.out.items ++ map (λ k. eight l.grid l.y (8 * k)) (range_with_len 0 l.k)
