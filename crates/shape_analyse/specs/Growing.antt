-- A report while it grows: good lines that have come to a section.
-- The sections of the `near` lines, of the contours and of the thinning are those with many lines.
use Rattle.std.specs.Prelude.{◌≡◌, ◌+◌, ◌≤◌, ℕ, List, [], ◌∷◌, length, take, None, All}
use Rattle.shape_terms.specs.Points.{Point, squared_distance}
use Rattle.shape_terms.specs.Pictures.{Picture, object_points}
use Rattle.shape_terms.specs.Traces.{Contour, AreContours}
use Rattle.shape_terms.specs.Covers.{Stretch}
use Rattle.shape_terms.specs.Thinning.{Rule, Event}
use Rattle.shape_terms.specs.Shelves.{Named}
use Rattle.report_terms.specs.Subjects.{Subject, IsOnShelf}
use Rattle.report_terms.specs.Forms.{last_number}
use Rattle.report_terms.specs.Lines.{Line, Heading, spelling, text_of, IsLineOf}
use Rattle.report_terms.specs.ContourLines.{Standing, standing, IsFull}
use Rattle.report_terms.specs.ThinningLines.{events_of, kept_facts, ThinningComplete}
use Rattle.report_terms.specs.Sections.{Section, lines_of, HasCome, GoodSoFar}
use Rattle.shape_line.specs.Found.{Found, stretches_of, IsCoverOf}

-- what a report is to be about, and by which of its rules the picture is to be thinned
pub record Aim : Type 0 where
  pub subject : Subject
  pub name : List ℕ
  pub rule : Rule

abbrev pub aim_of : Picture → List (Named Rule) → List ℕ → Rule → Aim
aim_of X shelf name rule = record { subject = record { picture = X; shelf = shelf }; name = name; rule = rule }

-- the heading of the report with these sides, which has the greatest number of its dimension
abbrev pub heading_of : Aim → Point → Heading
heading_of X sides = record { number = last_number (length X.subject.picture.sides); sides = sides; rule = X.name }

-- the lines have one heading, which names the rule
pub record HasHeading (X : Aim) (lines : List Line) : Type 0 where
  pub sides : Point
  pub first : lines_of Section.Heading lines ≡ Line.Shape (heading_of X sides) ∷ []
  pub on_shelf : IsOnShelf X.subject.shelf X.name X.rule

-- short lines of the reports of pictures like X, each good after those before it, of which the first names the rule
pub record AreGood (X : Aim) (lines : List Line) : Type 0 where
  pub fields : All (IsLineOf (length X.subject.picture.sides)) lines
  pub short : All (λ l. length (spelling l) ≤ 1024) lines
  pub good : GoodSoFar X.subject lines
  pub named : HasHeading X lines

-- the `shape` line, the `parts` line and n `near` lines, all of them good
pub record IsGrowing (X : Aim) (n : ℕ) (lines : List Line) : Type 0 where
  pub lines_good : AreGood X lines
  pub come : HasCome X.subject Section.Nearest lines
  pub nears : length (lines_of Section.Nearest lines) ≡ n

-- all lines before those of contours, and good lines of contours that stand at s, where `contours` are those of the flat picture
pub record IsOutlined (X : Aim) (contours : List Contour) (s : Standing) (lines : List Line) : Type 0 where
  pub flat : length X.subject.picture.sides ≡ 2
  pub are : AreContours X.subject.picture contours
  pub lines_good : AreGood X lines
  pub come : HasCome X.subject Section.Contours lines
  pub stands : standing (lines_of Section.Contours lines) ≡ s

-- where k contours have all their lines and one more was begun: how many points it was given, how many segments it is to have, and the stretches, each with its
-- `least` line, and how many gap lines it was given
abbrev pub at_contour : (k points declared : ℕ) → List Stretch → (gaps : ℕ) → Standing
at_contour k n m stretches g = record { begun = k + 1; points = n; declared = m; stretches = stretches; last = None; gaps = g }

-- the first k contours have all their lines
pub record HasOutlined (X : Aim) (contours : List Contour) (k : ℕ) (lines : List Line) : Type 0 where
  pub stand : Standing
  pub begun : stand.begun ≡ k
  pub full : IsFull contours stand
  pub outlined : IsOutlined X contours stand lines

-- all lines before those of the thinning, in a report of a picture of d axes
pub record IsSurveyed (d : ℕ) (X : Aim) (lines : List Line) : Type 0 where
  pub axes : length X.subject.picture.sides ≡ d
  pub few : d ≤ 3
  pub lines_good : AreGood X lines
  pub come : HasCome X.subject Section.Thinned lines
  pub none : lines_of Section.Thinned lines ≡ []

-- and the first k of these events
pub record HasEvents (d : ℕ) (X : Aim) (events : List Event) (k : ℕ) (lines : List Line) : Type 0 where
  pub axes : length X.subject.picture.sides ≡ d
  pub few : d ≤ 3
  pub lines_good : AreGood X lines
  pub come : HasCome X.subject Section.Thinned lines
  pub early : kept_facts (lines_of Section.Thinned lines) ≡ []
  pub so_far : events_of (lines_of Section.Thinned lines) ≡ take k events

-- all lines before `end`
pub record HasKept (X : Aim) (lines : List Line) : Type 0 where
  pub few : length X.subject.picture.sides ≤ 3
  pub lines_good : AreGood X lines
  pub come : HasCome X.subject Section.Thinned lines
  pub all : ThinningComplete (lines_of Section.Thinned lines)

-- the k-th contour was begun with its points, and is to have m segments
abbrev pub outlined : (k : ℕ) → Contour → (m : ℕ) → Standing
outlined k contour m = at_contour k (length contour.points) m [] 0

-- and it has the segments that were found, and so many gap lines
abbrev pub covered : (k : ℕ) → Contour → List Found → (gaps : ℕ) → Standing
covered k contour found g = at_contour k (length contour.points) (length found) (stretches_of found) g

-- the text is that of lines of which this is so
pub record IsTextOf (IsSo : List Line → Type 0) (text : List ℕ) : Type 0 where
  pub lines : List Line
  pub is : text ≡ text_of lines
  pub so : IsSo lines

-- the text is that of good lines that stand so
abbrev pub Stands : Aim → List Contour → Standing → List ℕ → Type 0
Stands X contours s text = IsTextOf (IsOutlined X contours s) text

-- no line was told so far
abbrev pub IsNoText : List ℕ → Type 0
IsNoText text = text ≡ []

-- the text has all lines before those of contours
abbrev pub HasNears : Aim → List ℕ → Type 0
HasNears X text = IsTextOf (IsGrowing X (length (object_points X.subject.picture))) text

-- the text has all lines before those of the thinning
abbrev pub HasSurveyed : ℕ → Aim → List ℕ → Type 0
HasSurveyed d X text = IsTextOf (IsSurveyed d X) text

-- the line of a point and a background point that is nearest to it
abbrev pub near_line : (p q : Point) → Line
near_line p q = Line.Near p q (squared_distance p q)

-- the line of an event
abbrev pub event_line : Event → Line
event_line (Event.Del p) = Line.Del p
event_line (Event.Tip p) = Line.Tip p

-- what was found is the cover of some contour
abbrev pub IsSomeCover : List Found → Type 0
IsSomeCover found = (points : List Point) × IsCoverOf points found
