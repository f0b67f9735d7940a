-- One place more of a segment that grows along a contour.
-- It stands by itself, since what is grown is told after it.
use Rattle.std.specs.Prelude.{◌≡◌, ℕ, ◌%◌, List, length, Result, Ok, Err, Option, MatchOption}
use Rattle.shape_terms.specs.Points.{Point}
use Rattle.shape_terms.specs.Refutations.{point_at}
use Rattle.shape_line.specs.declared.segment.Segment.{Segment}
use Rattle.shape_line.specs.declared.clash.Clash.{Clash}
use Rattle.shape_line.specs.Clashes.{IsClash}
use Rattle.shape_line.specs.SegmentTerms.{points_of}

-- the point at a place of the contour, round and round
abbrev pub place_of : List Point → ℕ → Point
place_of points i = point_at points (i % length points)

-- the segment has the points of a run
pub record Takes (t : ℕ) (run : List Point) (s : Segment) : Type 0 where
  pub axis : s.axis ≡ t
  pub taken : points_of s ≡ run

-- the segment of the run, or why it is not straight for the axis
abbrev pub IsGrownTo : ℕ → List Point → Result Segment Clash → Type 0
IsGrownTo t run (Ok s) = Takes t run s
IsGrownTo t run (Err clash) = IsClash t run clash

-- the segment that was s is that of the run now, or is as it was, and the run is not straight for the axis
abbrev pub HasGrownTo : ℕ → List Point → Segment → Segment → Option Clash → Type 0
HasGrownTo t run s now o = MatchOption o (IsGrownTo t run (Ok now)) (λ clash. (now ≡ s) × IsGrownTo t run (Err clash))
