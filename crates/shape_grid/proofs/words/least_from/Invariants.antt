use Rattle.std.proofs.Common.{ℕ, ◌*◌, ◌≤◌}
use Rattle.shape_grid.specs.Sets.{In}
use Rattle.shape_grid.proofs.words.least_from.Given as goal

abbrev pub invariant-loop-w : goal.invariant-loop-w
invariant-loop-w l = (i : ℕ) → In l.words i → l.from ≤ i → 64 * l.w ≤ i
