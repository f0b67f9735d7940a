use Rattle.std.proofs.Common.{◌≡◌, ℕ, ◌<◌, ◌≤◌, get_or}
use Rattle.masking.specs.Pictures.{told_diameter}
use Rattle.masking.proofs.thickness.double.Given as goal

abbrev pub invariant-loop-square : goal.invariant-loop-square
invariant-loop-square l = record {
  done : (k : ℕ) → k < l.square-index → get_or l.squares k 0 ≡ told_diameter (get_or l.fn.squares k 0);
  left : (k : ℕ) → l.square-index ≤ k → get_or l.squares k 0 ≡ get_or l.fn.squares k 0;
}
