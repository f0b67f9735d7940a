-- Digital straight runs: lists of flat points that go one way along an axis, and that some naive line of the other axis holds.
-- How straightness is decided belongs elsewhere.
use Rattle.std.specs.Prelude.{◌≡◌, ◌⊎◌, ℕ, ◌+◌, ◌<◌, List, length, pos, negsuc}
use Rattle.shape_terms.specs.Points.{Point}
use Rattle.shape_terms.specs.Naive.{Naive, IsNaiveFor}
use Rattle.shape_terms.specs.Turns.{IsTurn, change_at}

-- the changes of the other coordinate along the run are all 1 or all -1
abbrev pub KeepsSense : ℕ → List Point → Type 0
KeepsSense t run = ((i : ℕ) → i + 1 < length run → change_at run t i ≡ pos 1) ⊎ ((i : ℕ) → i + 1 < length run → change_at run t i ≡ negsuc 0)

-- the run is not empty, there is no turn, and some proper naive line of the axis t holds it
pub record IsStraightFor (t : ℕ) (run : List Point) : Type 0 where
  pub some : 0 < length run
  pub no_turn : (i j : ℕ) → IsTurn t run i j → ⊥
  pub line : (n : Naive) × IsNaiveFor t run n

-- it is straight for the axis x or for the axis y
abbrev pub IsStraight : List Point → Type 0
IsStraight run = IsStraightFor 0 run ⊎ IsStraightFor 1 run
