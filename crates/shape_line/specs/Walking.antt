-- Walks round a contour: from one arc that a naive line holds to the next, with evidence for both axes that the gap between them is not straight.
-- What a walk is stands in `RunWalks`, for any notion of straight runs.
use Rattle.std.specs.Prelude.{◌≡◌, List}
use Rattle.shape_terms.specs.Points.{Point}
use Rattle.shape_terms.specs.Straight.{IsStraight}
use Rattle.shape_terms.specs.RunWalks.{WalkKind}
use Rattle.shape_line.specs.Found.{Found}
use Rattle.shape_line.specs.Arcs.{IsHeld, IsBent}

-- the line holds the run, and the segment that was grown has its points
pub record IsGrownOver (f : Found) (run : List Point) : Type 0 where
  pub held : IsHeld f.axis run f.line
  pub grown : f.grown ≡ run

abbrev pub contour_walk : WalkKind Found
contour_walk = record { Straight = IsStraight; stretch = λ f. f.stretch; Holds = IsGrownOver; Bends = λ f run. IsBent run f.x f.y }
