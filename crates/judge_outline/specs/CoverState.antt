-- What a judge of the lines of contours is seen as, and which lines it stands for.
-- It holds no line: it stands for each list of lines that stands where it does.
use Rattle.std.specs.Prelude.{◌≡◌, ⊤, ℕ, Option, None, Some, ◌+◌, ◌-◌, ◌*◌, ◌<◌, ◌≤◌, List, [], ◌∷◌, ◌++◌, length, map, drop, All}
use Rattle.shape_terms.specs.Points.{Point}
use Rattle.shape_terms.specs.Pictures.{Picture}
use Rattle.shape_terms.specs.Traces.{Contour, AreContours, points_in}
use Rattle.std.specs.Option.{option_map}
use Rattle.shape_terms.specs.Limits.{most_round}
use Rattle.shape_terms.specs.Covers.{arc}
use Rattle.shape_terms.specs.Naive.{IsNaiveFor}
use Rattle.report_terms.specs.Lines.{Line}
use Rattle.shape_refute.specs.declared.places.Places.{Places}
use Rattle.shape_refute.specs.Places.{stretch_of, IsAround}
use Rattle.judge_outline.specs.declared.segment.Segment.{Segment as Taken}
use Rattle.judge_outline.specs.Segments.{segment_of}
use Rattle.report_terms.specs.ContourFacts.{Segment}
use Rattle.report_terms.specs.ContourLines.{Standing, standing, open_contour}

-- the number of the report, the contours of the picture, and where the lines stand
pub record CoverState : Type 0 where
  pub number : ℕ
  pub contours : List Contour
  pub standing : Standing

-- where the lines stand by the judge's own numbers, the places of its segments, and the one of the last line
abbrev pub standing_of : (begun points declared : ℕ) → List Places → Option Taken → (gaps : ℕ) → Standing
standing_of begun points declared segments last gaps =
    record { begun = begun; points = points; declared = declared; stretches = map stretch_of segments; last = option_map segment_of last; gaps = gaps }

abbrev pub state_of : (number : ℕ) → List Contour → (begun points declared : ℕ) → List Places → Option Taken → (gaps : ℕ) → CoverState
state_of number contours begun points declared segments last gaps =
    record { number = number; contours = contours; standing = standing_of begun points declared segments last gaps }

-- the points of the contour that was begun last
abbrev pub open_points : CoverState → List Point
open_points s = (open_contour s.contours s.standing).points

-- where the lines stand after one more `contour` line, which gives m segments, `at` line, `seg` line, `least` line and gap line
abbrev pub with_contour : Standing → (m : ℕ) → Standing
with_contour s m = record { begun = s.begun + 1; points = 0; declared = m; stretches = []; last = None; gaps = 0 }

abbrev pub with_point : Standing → Standing
with_point s = record s { points = s.points + 1; last = None }

abbrev pub with_segment : Standing → Segment → Standing
with_segment s k = record s { stretches = s.stretches ++ k.stretch ∷ []; last = Some k }

abbrev pub with_least : Standing → Standing
with_least s = record s { last = None }

abbrev pub with_gap : Standing → Standing
with_gap s = record s { last = None; gaps = s.gaps + 1 }

-- after a `seg` line one `least` line may come
abbrev pub owed : Option Segment → ℕ
owed None = 0
owed (Some k) = 1

-- a bound of the number of lines that may still be taken: those left of the contour that was begun last, and at most five for each point of the contours to
-- come, and one for each of them
abbrev pub room_of : CoverState → ℕ
room_of s = (length (open_contour s.contours s.standing).points - s.standing.points) + 2 * (s.standing.declared - length s.standing.stretches)
    + owed s.standing.last + (2 * s.standing.declared - s.standing.gaps)
    + (length s.contours - s.standing.begun) + 5 * points_in (drop s.standing.begun s.contours)

-- the judge stands for these lines of contours of the flat picture X
pub record StandsFor (X : Picture) (s : CoverState) (lines : List Line) : Type 0 where
  pub flat : length X.sides ≡ 2
  pub are : AreContours X s.contours
  pub stands : standing lines ≡ s.standing

-- a segment of the contour that was begun last: its places are some of it, and its line, of an axis of the plane, holds it
pub record IsTaken (contours : List Contour) (s : Standing) (k : Segment) : Type 0 where
  pub begun : 0 < s.begun
  pub axis : k.axis < 2
  pub around : IsAround (length (open_contour contours s).points) k.stretch
  pub rises : k.stretch.first ≤ k.stretch.last
  pub held : IsNaiveFor k.axis (arc (open_contour contours s).points k.stretch.first k.stretch.last) k.line

-- the segment of the last line, if any, is one
abbrev pub LastIsTaken : List Contour → Standing → Option Segment → Type 0
LastIsTaken contours s None = ⊤
LastIsTaken contours s (Some k) = IsTaken contours s k

-- no more contours were begun than there are, and of the last of them no more lines taken than it has
pub record IsInStep (contours : List Contour) (s : Standing) : Type 0 where
  pub few : s.begun ≤ length contours
  pub begun : 0 < s.declared → 0 < s.begun
  pub points_within : s.points ≤ length (open_contour contours s).points
  pub declared_within : s.declared ≤ length (open_contour contours s).points
  pub declared_few : s.declared ≤ most_round
  pub listed_within : length s.stretches ≤ s.declared
  pub gaps_within : s.gaps ≤ 2 * s.declared
  pub around : All (IsAround (length (open_contour contours s).points)) s.stretches
  pub last_taken : LastIsTaken contours s s.last

-- the points of the contour that was begun last stand twice round in the buffer, and buffers of these sizes have room for each contour
pub record HasRound (contours : List Contour) (s : Standing) (round : List Point) (round_room stretch_room : ℕ) : Type 0 where
  pub twice : 0 < s.begun → round ≡ arc (open_contour contours s).points 0 (2 * length (open_contour contours s).points - 1)
  pub round_fits : All (λ k. 2 * length k.points ≤ round_room) contours
  pub stretches_fit : All (λ k. length k.points ≤ stretch_room) contours
