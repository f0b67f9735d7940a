-- Turns of runs of flat points: two changes of the other coordinate that no straight run has both.
-- None of the definitions may name a type of the program.
use Rattle.std.specs.Prelude.{◌≡◌, ℕ, ◌+◌, ◌-◌, ◌<◌, List, length, ℤ, pos, negsuc, ◌-ℤ◌}
use Rattle.shape_terms.specs.Points.{Point, coordinate}
use Rattle.shape_terms.specs.Refutations.{point_at}

-- the axis of the plane other than t
abbrev pub other_axis : ℕ → ℕ
other_axis t = 1 - t

-- how much the other coordinate changes from place i of the run to the next
abbrev pub change_at : List Point → ℕ → ℕ → ℤ
change_at run t i = coordinate (point_at run (i + 1)) (other_axis t) -ℤ coordinate (point_at run i) (other_axis t)

-- i and j are places of changes that are not both 1 and not both -1
pub record IsTurn (t : ℕ) (run : List Point) (i j : ℕ) : Type 0 where
  pub first : i + 1 < length run
  pub second : j + 1 < length run
  pub not_forward : (change_at run t i ≡ pos 1) × (change_at run t j ≡ pos 1) → ⊥
  pub not_backward : (change_at run t i ≡ negsuc 0) × (change_at run t j ≡ negsuc 0) → ⊥
