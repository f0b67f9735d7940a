-- The edge report of a picture: its sides, then for each cycle of cracks its arcs and the evidence for its gaps, and the end.
-- When a line is good is told by its claim, in the state that the lines before it led to.
use Rattle.std.specs.Prelude.{◌≡◌, List, [], ◌∷◌}
use Rattle.shape_terms.specs.Pictures.{Picture}
use Rattle.text_terms.specs.Courses.{Course, by_course}
use Rattle.text_terms.specs.Reports.{Report}
use Rattle.edge_terms.specs.EdgeCycles.{EdgeCycle, AreEdgeCycles}
use Rattle.edge_terms.specs.CycleLines.{Standing, AreAllTold, IsCycleHead, IsNextArc, IsNextGap, with_cycle, with_arc, with_gap, nothing_taken}
use Rattle.edge_terms.specs.Lines.{Line, spelled}

-- no line came; or the lines of cycles stand so; or the end came
pub data State : Type 0 where
  Opening : State
  Open : Standing → State
  Ended : State

-- the state after one more line
abbrev pub next : State → Line → State
next s (Line.Edges w h) = State.Open nothing_taken
next (State.Open s) (Line.Cycle c n m) = State.Open (with_cycle s m)
next (State.Open s) (Line.Arc k line) = State.Open (with_arc s k)
next (State.Open s) (Line.Gap e) = State.Open (with_gap s)
next s Line.End = State.Ended
next s _ = State.Opening

-- the claim of a line among those of cycles, where these are the picture's
abbrev pub CycleClaim : List EdgeCycle → Standing → Line → Type 0
CycleClaim cycles s (Line.Edges w h) = ⊥
CycleClaim cycles s (Line.Cycle c n m) = IsCycleHead cycles s c n m
CycleClaim cycles s (Line.Arc k line) = IsNextArc cycles s k.first k.last line
CycleClaim cycles s (Line.Gap e) = IsNextGap cycles s e
CycleClaim cycles s Line.End = AreAllTold cycles s

-- the same for the cycles that the picture has
pub record IsCycleLine (X : Picture) (s : Standing) (l : Line) : Type 0 where
  pub cycles : List EdgeCycle
  pub are : AreEdgeCycles X cycles
  pub claim : CycleClaim cycles s l

-- the claim of a line: first the sides of the picture, and then the lines of its cycles
abbrev pub Claim : Picture → State → Line → Type 0
Claim X State.Opening (Line.Edges w h) = X.sides ≡ w ∷ h ∷ []
Claim X State.Opening _ = ⊥
Claim X (State.Open s) l = IsCycleLine X s l
Claim X State.Ended l = ⊥

abbrev pub HasEnded : State → Type 0
HasEnded State.Ended = Unit {0}
HasEnded _ = ⊥

abbrev pub course : Picture → Course Line State
course X = record { start = State.Opening; next = next; Claim = Claim X }

-- the edge report of a picture
abbrev pub edge_report : Picture → Report Line
edge_report X = by_course spelled Line.End (course X)
