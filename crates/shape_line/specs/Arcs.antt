-- What is found of one arc of a contour: a line that holds it, or evidence for both axes that it is not straight.
-- How an arc is decided belongs elsewhere.
use Rattle.std.specs.Prelude.{ℕ, ◌<◌, List}
use Rattle.shape_terms.specs.Points.{Point}
use Rattle.shape_terms.specs.Naive.{Naive, IsNaiveFor}
use Rattle.shape_terms.specs.Turns.{IsTurn}
use Rattle.shape_terms.specs.Covers.{Evidence, IsEvidence}
use Rattle.shape_terms.specs.Least.{IsLeastLine}
use Rattle.shape_line.specs.Found.{IsShortLine, IsShortEvidence}

-- the run has no turn for the axis t, and a proper line of the axis with short numbers holds it, with the least main coefficient of all such lines
pub record IsHeld (t : ℕ) (run : List Point) (line : Naive) : Type 0 where
  pub axis : t < 2
  pub no_turn : (i j : ℕ) → IsTurn t run i j → ⊥
  pub naive : IsNaiveFor t run line
  pub short : IsShortLine line
  pub least : IsLeastLine t run line

-- the run is not straight for the axis t, as evidence with short numbers shows
pub record IsRefused (t : ℕ) (run : List Point) (why : Evidence) : Type 0 where
  pub shows : IsEvidence t run why
  pub short : IsShortEvidence why

-- the run is refused for both axes
pub record IsBent (run : List Point) (why_x why_y : Evidence) : Type 0 where
  pub x : IsRefused 0 run why_x
  pub y : IsRefused 1 run why_y
