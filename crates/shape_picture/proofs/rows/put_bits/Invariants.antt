use Rattle.std.proofs.Common.{◌≡◌, ◌+◌, ◌-◌, ◌≤◌, ◌++◌, List, Bool, ℕ, false, length, take, replicate}
use Rattle.shape_picture.specs.Pbm.{bits_of}
use Rattle.shape_picture.proofs.rows.put_bits.Given as goal

abbrev pub invariant-loop-place : goal.invariant-loop-place
invariant-loop-place g l =
    (l.grid.sides ≡ l.fn.grid.sides)
    × ((known : List Bool) (total : ℕ) → length known ≡ l.from → l.from + l.pixels ≤ total → l.fn.grid.values ≡ known ++ replicate (total - l.from) false
    → l.grid.values ≡ (known ++ take l.place (bits_of l.c)) ++ replicate (total - (l.from + l.place)) false)
