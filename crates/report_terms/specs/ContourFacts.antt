-- What a report says of a contour, and when it shows it: the outline, the segments of the tangential cover, the evidence that their lines are least, and how
-- each gap is refused.
-- Geometry alone: no line, spelling or judge stands here.
use Rattle.std.specs.Prelude.{◌≡◌, ℕ, ◌<◌, List, [], ◌∷◌, length, map, slice_get, Some, ◌≤ℤ◌, All}
use Rattle.std.specs.List.{AllZip}
use Rattle.shape_terms.specs.Points.{Point, coordinate}
use Rattle.shape_terms.specs.Pictures.{Picture}
use Rattle.shape_terms.specs.Naive.{Naive, IsNaiveFor}
use Rattle.shape_terms.specs.Straight.{KeepsSense, IsStraightFor}
use Rattle.shape_terms.specs.Traces.{Contour, AreContours}
use Rattle.shape_terms.specs.Least.{IsLeastLine, Pairs, ShowsLeast}
use Rattle.shape_terms.specs.Covers.{Stretch, IsCover, Evidence, arc, gap_run}

-- a segment: its stretch of the contour, and a naive line with its main axis
pub record Segment : Type 0 where
  pub stretch : Stretch
  pub axis : ℕ
  pub line : Naive

abbrev pub stretches_of : List Segment → List Stretch
stretches_of segments = map (λ (s : Segment). s.stretch) segments

-- how the run of a gap is refused: by a turn or by weights
pub data GapKind : Type 0 where
  ByTurn ByCut : GapKind

abbrev pub kind_of : Evidence → GapKind
kind_of (Evidence.Turned i j) = GapKind.ByTurn
kind_of (Evidence.Cut why) = GapKind.ByCut

-- the axis for which the run of a gap is refused, and how
pub record GapFact : Type 0 where
  pub axis : ℕ
  pub kind : GapKind

-- a contour with its segments in order, the pairs of places that show the lines of these to be least, where the report gives them, and for each segment how the
-- gap after it is refused for the one and for the other axis
pub record ContourFact : Type 0 where
  pub outline : Contour
  pub segments : List Segment
  pub evidence : List Pairs
  pub gaps : List (GapFact × GapFact)

-- the facts two by two: each gap has two
abbrev pub in_pairs : List GapFact → List (GapFact × GapFact)
in_pairs (a ∷ b ∷ facts) = (a, b) ∷ in_pairs facts
in_pairs _ = []

-- ---- what they show

-- the line is of an axis of the plane, proper, and holds each place of the stretch, along which the other coordinate keeps its sense
pub record SegmentShows (points : List Point) (s : Segment) : Type 0 where
  pub axis : s.axis < 2
  pub line : IsNaiveFor s.axis (arc points s.stretch.first s.stretch.last) s.line
  pub sense : KeepsSense s.axis (arc points s.stretch.first s.stretch.last)

-- the line has the least main coefficient of all proper lines of its axis that hold each place of the stretch
abbrev pub SegmentIsLeast : List Point → Segment → Type 0
SegmentIsLeast points s = IsLeastLine s.axis (arc points s.stretch.first s.stretch.last) s.line

-- no proper line of the axis x or y that holds each place of the stretch has a lesser main coefficient
abbrev pub SegmentIsLeastOfBoth : List Point → Segment → Type 0
SegmentIsLeastOfBoth points s = (u : ℕ) (n : Naive) → u < 2 → IsNaiveFor u (arc points s.stretch.first s.stretch.last) n
    → coordinate s.line.a s.axis ≤ℤ coordinate n.a u

-- the pairs of places show that no proper line of the axis that holds each place of the stretch has a lesser main coefficient
abbrev pub SegmentHasEvidence : List Point → Segment → Pairs → Type 0
SegmentHasEvidence points s pairs = ShowsLeast s.axis (arc points s.stretch.first s.stretch.last) (coordinate s.line.a s.axis) pairs

-- the run is not straight for the axis, and where weights refuse it, no proper naive line of that axis holds it
pub record RefusalShows (run : List Point) (fact : GapFact) : Type 0 where
  pub not_straight : IsStraightFor fact.axis run → ⊥
  pub no_line : fact.kind ≡ GapKind.ByCut → (n : Naive) → IsNaiveFor fact.axis run n → ⊥

-- the first fact of a gap is of the axis x and the second of the axis y, so the run is straight for neither
pub record GapShows (run : List Point) (facts : GapFact × GapFact) : Type 0 where
  pub axis_x : facts.0.axis ≡ 0
  pub axis_y : facts.1.axis ≡ 1
  pub refused_x : RefusalShows run facts.0
  pub refused_y : RefusalShows run facts.1

-- the segments are exactly the cover of the contour, each with its line, which in a report with the number 2 is least and has evidence of it; and each has a
-- gap, whose run is not straight
pub record ContourShows (number : ℕ) (fact : ContourFact) : Type 0 where
  pub cover : IsCover fact.outline.points (stretches_of fact.segments)
  pub lines : All (SegmentShows fact.outline.points) fact.segments
  pub least : number ≡ 2 → All (SegmentIsLeast fact.outline.points) fact.segments
  pub evidence : number ≡ 2 → AllZip (SegmentHasEvidence fact.outline.points) fact.segments fact.evidence
  pub all_gaps : length fact.gaps ≡ length fact.segments
  pub gaps : (k : ℕ) (g : GapFact × GapFact) → slice_get fact.gaps k ≡ Some g → GapShows (gap_run fact.outline.points (stretches_of fact.segments) k) g

-- the contours are those of the picture, and each has its cover
pub record ContoursShow (number : ℕ) (X : Picture) (facts : List ContourFact) : Type 0 where
  pub outlines : AreContours X (map (λ (f : ContourFact). f.outline) facts)
  pub each : All (ContourShows number) facts
