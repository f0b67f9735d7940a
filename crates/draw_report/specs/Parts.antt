-- What the lines of a further report give to a drawing: marks, between a heading and an end.
-- Which lines give what, each kind of report says in `Kinds`; how marks are drawn stands in `Circles` and `Borders`.
use Rattle.std.specs.Prelude.{◌≡◌, ℕ, ⊤, List, filter_map, Option, Some, None}
use Rattle.shape_terms.specs.Points.{Point}
use Rattle.shape_terms.specs.Covers.{Stretch}
use Rattle.text_terms.specs.Spellings.{Spelled}
use Rattle.text_terms.specs.Courses.{Course, by_course}
use Rattle.text_terms.specs.Reports.{Report}

-- what is drawn of a line: a ball, by its centre and the square of its radius; that the next border begins; or a stretch of the border that was begun last
pub data Mark : Type 0 where
  Ball : (centre : Point) → (square : ℕ) → Mark
  Border : Mark
  Along : (stretch : Stretch) → Mark

-- a line as far as a drawing goes: the heading, with the sides of the picture; one that gives a mark; one that gives nothing; or the end
pub data Part : Type 0 where
  Heading : (sides : Point) → Part
  Gives : (mark : Mark) → Part
  Quiet : Part
  End : Part

-- the mark that a line gives
abbrev pub mark_in : Part → Option Mark
mark_in (Part.Gives m) = Some m
mark_in _ = None

-- ---- kinds of lines

-- the lines of a kind of report: how they stand in text, which of them is the last, and what each gives
pub record LineKind : Type 1 where
  pub Line : Type 0
  pub text : Spelled Line
  pub last : Line
  pub part : Line → Part

-- such a kind by its parts
abbrev pub kind_by : {L : Type 0} → Spelled L → L → (L → Part) → LineKind
kind_by {L} text last part = record { Line = L; text = text; last = last; part = part }

-- the marks of the lines, in their order
abbrev pub marks_of : (K : LineKind) → List K.Line → List Mark
marks_of K lines = filter_map (λ l. mark_in (K.part l)) lines

-- ---- lines in order

-- where a report stands: no line came; the heading came; or the end came
pub data Standing : Type 0 where
  Opening Open Ended : Standing

-- where it stands after one more line
abbrev pub step : Standing → Part → Standing
step s Part.End = Standing.Ended
step s (Part.Heading sides) = Standing.Open
step s (Part.Gives m) = Standing.Open
step s Part.Quiet = Standing.Open

-- which line may come, in a report about a picture with these sides: first the heading with them, then no further heading, and none behind the end
abbrev pub Claim : Point → Standing → Part → Type 0
Claim sides Standing.Opening (Part.Heading s) = s ≡ sides
Claim sides Standing.Open (Part.Gives m) = ⊤
Claim sides Standing.Open Part.Quiet = ⊤
Claim sides Standing.Open Part.End = ⊤
Claim sides _ _ = ⊥

abbrev pub course : (K : LineKind) → Point → Course K.Line Standing
course K sides = record { start = Standing.Opening; next = λ s l. step s (K.part l); Claim = λ s l. Claim sides s (K.part l) }

-- the reports of lines in order, about a picture with these sides
abbrev pub in_order : (K : LineKind) → Point → Report K.Line
in_order K sides = by_course K.text K.last (course K sides)
