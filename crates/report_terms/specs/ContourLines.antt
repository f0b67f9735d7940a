-- The lines of contours in a report: how they stand in groups, and when one is good after those before it.
-- Only the lines of this section stand here; how sections follow each other stands in `Sections`.
use Rattle.std.specs.Prelude.{◌≡◌, ℕ, ◌-◌, ◌*◌, ◌/◌, ◌%◌, ◌<◌, ◌≤◌, Bool, true, false, not, if◌then◌else◌, List, [], ◌∷◌, length, filter_map, take_while}
use Rattle.std.specs.Prelude.{slice_get, slice_index_or, Option, Some, None}
use Rattle.shape_terms.specs.Points.{Point, coordinate}
use Rattle.shape_terms.specs.Pictures.{Picture}
use Rattle.shape_terms.specs.Naive.{Naive}
use Rattle.shape_terms.specs.Contours.{Crack}
use Rattle.shape_terms.specs.Traces.{Contour, AreContours}
use Rattle.shape_terms.specs.Covers.{Stretch, IsSegment, Evidence, IsEvidence, arc, gap_run}
use Rattle.shape_terms.specs.Least.{Pairs, ShowsLeast}
use Rattle.report_terms.specs.ContourFacts.{Segment, stretches_of, GapFact, kind_of}
use Rattle.report_terms.specs.Lines.{Line}

-- ---- groups of lines

-- the lines in groups: each group begins with a line that passes the test, and goes up to the next such line
abbrev pub groups : (Line → Bool) → List Line → List (List Line)
groups test [] = []
groups test (l ∷ lines) = if test l then (l ∷ take_while (λ x. not (test x)) lines) ∷ groups test lines else groups test lines

abbrev pub is_contour : Line → Bool
is_contour (Line.Contour _ _ _ _) = true
is_contour _ = false

-- the lines of each contour
abbrev pub contour_groups : List Line → List (List Line)
contour_groups lines = groups is_contour lines

-- the lines of the contour that was begun last
abbrev pub open_group : List Line → List Line
open_group lines = slice_index_or (contour_groups lines) (length (contour_groups lines) - 1) []

-- ---- what the lines of a group give

-- the point that an `at` line gives
abbrev pub point_of : Line → Option Point
point_of (Line.At p) = Some p
point_of _ = None

-- the segment that a `seg` line gives
abbrev pub segment_of : Line → Option Segment
segment_of (Line.Seg b e t a mu) = Some (record { stretch = record { first = b; last = e }; axis = t; line = record { a = a; mu = mu } })
segment_of _ = None

-- the pairs of places that a `least` line gives
abbrev pub pairs_of : Line → Option Pairs
pairs_of (Line.Least pairs) = Some pairs
pairs_of _ = None

-- the refusal that a gap line gives
abbrev pub gap_of : Line → Option GapFact
gap_of (Line.Gap t evidence) = Some (record { axis = t; kind = kind_of evidence })
gap_of _ = None

-- the number of segments that the `contour` line gives
abbrev pub declared_of : List Line → ℕ
declared_of (Line.Contour _ _ _ m ∷ _) = m
declared_of _ = 0

-- the segment of the last line, where that is a `seg` line
abbrev pub last_segment : List Line → Option Segment
last_segment [] = None
last_segment (l ∷ []) = segment_of l
last_segment (l ∷ m ∷ lines) = last_segment (m ∷ lines)

-- ---- where the lines stand

-- how many contours were begun; and of the last of them, how many points it was given, how many segments its `contour` line gives, the stretches of those it
-- was given, the segment of the last line where that is a `seg` line, and how many gap lines it has
-- A judge keeps as much, but what lines claim is not its notion: `holds_shows` says of every text that holds, in geometry alone (`ContourFacts`), that its
-- facts are those of all contours of the picture, each with all its maximal segments and with a refusal of each gap.
pub record Standing : Type 0 where
  pub begun : ℕ
  pub points : ℕ
  pub declared : ℕ
  pub stretches : List Stretch
  pub last : Option Segment
  pub gaps : ℕ

-- the same where so many contours were begun, the last with this group of lines
abbrev pub standing_with : ℕ → List Line → Standing
standing_with n group = record {
  begun = n;
  points = length (filter_map point_of group);
  declared = declared_of group;
  stretches = stretches_of (filter_map segment_of group);
  last = last_segment group;
  gaps = length (filter_map gap_of group);
}

abbrev pub standing : List Line → Standing
standing lines = standing_with (length (contour_groups lines)) (open_group lines)

-- a contour without points, which no picture has
abbrev pub no_contour : Contour
no_contour = record { start = record { pixel = []; side = 0 }; points = [] }

-- the contour that was begun last
abbrev pub open_contour : List Contour → Standing → Contour
open_contour contours s = slice_index_or contours (s.begun - 1) no_contour

-- the contour that was begun last has all its points, all its segments and two gap lines for each of them
pub record HasAllLines (contours : List Contour) (s : Standing) : Type 0 where
  pub points : s.points ≡ length (open_contour contours s).points
  pub segments : length s.stretches ≡ s.declared
  pub gaps : s.gaps ≡ 2 * s.declared

-- no contour is begun and without all its lines
abbrev pub IsFull : List Contour → Standing → Type 0
IsFull contours s = 0 < s.begun → HasAllLines contours s

-- ---- claims

-- the claim of a `contour` line: the next contour begins with this crack and has so many points; it has at least one segment, and no more than points
pub record IsContourHead (contours : List Contour) (s : Standing) (c : Crack) (n m : ℕ) : Type 0 where
  pub full : IsFull contours s
  pub points : List Point
  pub next : slice_get contours s.begun ≡ Some (record { start = c; points = points })
  pub count : n ≡ length points
  pub segments : (1 ≤ m) × (m ≤ n)

-- the claim of an `at` line: before any segment, it gives the next point of the contour that was begun last
pub record IsNextPoint (contours : List Contour) (s : Standing) (p : Point) : Type 0 where
  pub some : 0 < s.begun
  pub early : s.stretches ≡ []
  pub next : slice_get (open_contour contours s).points s.points ≡ Some p

-- the line right before is no `seg` line that wants a `least` line, as each one does in a report with the number 2
abbrev pub WantsNone : (number : ℕ) → Standing → Type 0
WantsNone number s = number ≡ 2 → s.last ≡ None

-- the claim of a `seg` line: all points are given, a segment is wanted, no `least` line is and no gap line came yet, and the segment is good after those before
-- it
pub record IsNextSegment (number : ℕ) (contours : List Contour) (s : Standing) (b e t : ℕ) (line : Naive) : Type 0 where
  pub points : s.points ≡ length (open_contour contours s).points
  pub more : length s.stretches < s.declared
  pub shown : WantsNone number s
  pub early : s.gaps ≡ 0
  pub segment : IsSegment (open_contour contours s).points s.declared s.stretches b e t line

-- the claim of a `least` line: in a report with the number 2, the line right before is a `seg` line, and the pairs of places of its run show its line to be
-- least
pub record IsNextLeast (number : ℕ) (contours : List Contour) (s : Standing) (pairs : Pairs) : Type 0 where
  pub second : number ≡ 2
  pub segment : Segment
  pub before : s.last ≡ Some segment
  pub shows : ShowsLeast segment.axis (arc (open_contour contours s).points segment.stretch.first segment.stretch.last) (coordinate segment.line.a segment.axis)
      pairs

-- the claim of a gap line: all points and segments are given, no `least` line is wanted, the gap line of this axis comes next, and its evidence is good for the
-- run of its gap
pub record IsNextGap (number : ℕ) (contours : List Contour) (s : Standing) (t : ℕ) (evidence : Evidence) : Type 0 where
  pub points : s.points ≡ length (open_contour contours s).points
  pub segments : length s.stretches ≡ s.declared
  pub shown : WantsNone number s
  pub more : s.gaps < 2 * s.declared
  pub axis : t ≡ s.gaps % 2
  pub good : IsEvidence t (gap_run (open_contour contours s).points s.stretches (s.gaps / 2)) evidence

-- the claim of a line of a contour in a report with this number, where `contours` are the picture's
abbrev pub OutlineClaim : (number : ℕ) → List Contour → Standing → Line → Type 0
OutlineClaim number contours s (Line.Contour p side n m) = IsContourHead contours s (record { pixel = p; side = side }) n m
OutlineClaim number contours s (Line.At p) = IsNextPoint contours s p
OutlineClaim number contours s (Line.Seg b e t a mu) = IsNextSegment number contours s b e t (record { a = a; mu = mu })
OutlineClaim number contours s (Line.Least pairs) = IsNextLeast number contours s pairs
OutlineClaim number contours s (Line.Gap t evidence) = IsNextGap number contours s t evidence
OutlineClaim number contours s _ = ⊥

-- the claim of a line of a contour of the picture, after the lines of contours before it
abbrev pub ContourClaim : (number : ℕ) → Picture → List Line → Line → Type 0
ContourClaim number X lines l = (contours : List Contour) × AreContours X contours × OutlineClaim number contours (standing lines) l

-- each contour of the picture has its lines
abbrev pub ContoursComplete : Picture → List Line → Type 0
ContoursComplete X lines = (contours : List Contour) × AreContours X contours × IsFull contours (standing lines) × ((standing lines).begun ≡ length contours)
