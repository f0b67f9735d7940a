-- The report of the fewest straight pieces of each contour of a flat picture: when each of its lines is good, and where it ends.
-- What such a report shows in geometry alone stands in `Shown`.
use Rattle.std.specs.Prelude.{◌≡◌, List, map, pos}
use Rattle.shape_terms.specs.Points.{Point}
use Rattle.shape_terms.specs.Pictures.{Picture}
use Rattle.shape_terms.specs.Traces.{Contour, AreContours}
use Rattle.text_terms.specs.Courses.{Course, by_course}
use Rattle.text_terms.specs.Reports.{Report}
use Rattle.piece_terms.specs.SplitLines.{Standing, at_start, after_line, IsNextLine, AllListed}
use Rattle.piece_terms.specs.Lines.{Line, spelled}

-- no line came; the sides were given, and lines of contours that stand so; or the end came
pub data State : Type 0 where
  Opening : State
  Listing : Standing → State
  Ended : State

-- the state after one line more
abbrev pub step : State → Line → State
step s (Line.Pieces sides) = State.Listing at_start
step (State.Listing s) (Line.Listed l) = State.Listing (after_line s l)
step s (Line.Listed l) = State.Opening
step s Line.End = State.Ended

-- the line gives these sides
abbrev pub IsHeading : Point → Line → Type 0
IsHeading sides (Line.Pieces s) = s ≡ sides
IsHeading sides _ = ⊥

-- the claim of a line behind the heading, where the picture has these contours: it is the next that lists their splits, or the end, where each has all its
-- pieces
abbrev pub ListClaim : List Contour → Standing → Line → Type 0
ListClaim contours s (Line.Listed l) = IsNextLine contours s l
ListClaim contours s Line.End = AllListed contours s
ListClaim contours s (Line.Pieces sides) = ⊥

-- the claim of a line: the first gives the sides of the picture, and the others list a split of each of its contours
abbrev pub Claim : Picture → State → Line → Type 0
Claim X State.Opening l = IsHeading (map pos X.sides) l
Claim X (State.Listing s) l = (contours : List Contour) × AreContours X contours × ListClaim contours s l
Claim X State.Ended l = ⊥

abbrev pub HasEnded : State → Type 0
HasEnded State.Ended = Unit {0}
HasEnded _ = ⊥

abbrev pub course : Picture → Course Line State
course X = record { start = State.Opening; next = step; Claim = Claim X }

-- the reports of the fewest straight pieces of the contours of a flat picture
abbrev pub piece_report : Picture → Report Line
piece_report X = by_course spelled Line.End (course X)
