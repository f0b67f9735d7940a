-- An edge report ends with its `end` line, and no line is good behind it.
-- Laws of the course of states alone.
use Rattle.std.proofs.Common.{◌≡◌, refl}
use Rattle.shape_terms.specs.Pictures.{Picture}
use Rattle.text_terms.specs.Reports.{IsReport}
use Rattle.text_terms.specs.Courses.{EndsBy}
use Rattle.text_terms.proofs.CourseLaws.{course_ends}
use Rattle.edge_terms.specs.Lines.{Line, spelled}
use Rattle.edge_terms.specs.EdgeReports.{State, next, Claim, HasEnded, course, edge_report}

only_end : (s : State) (l : Line) → HasEnded (next s l) → l ≡ Line.End
only_end s Line.End h = refl
only_end s (Line.Edges w k) h = absurd h
only_end State.Opening (Line.Cycle c n m) h = absurd h
only_end (State.Open t) (Line.Cycle c n m) h = absurd h
only_end State.Ended (Line.Cycle c n m) h = absurd h
only_end State.Opening (Line.Arc k line) h = absurd h
only_end (State.Open t) (Line.Arc k line) h = absurd h
only_end State.Ended (Line.Arc k line) h = absurd h
only_end State.Opening (Line.Gap e) h = absurd h
only_end (State.Open t) (Line.Gap e) h = absurd h
only_end State.Ended (Line.Gap e) h = absurd h

none_behind : (X : Picture) (s : State) (l : Line) → HasEnded s → Claim X s l → ⊥
none_behind X State.Ended l e h = h
none_behind X State.Opening l e h = e
none_behind X (State.Open t) l e h = e

pub ends_by : (X : Picture) → EndsBy (course X) Line.End HasEnded
ends_by X = record { late = λ h. h; here = λ s. tt; only = only_end; none = none_behind X }

pub is_report : (X : Picture) → IsReport (edge_report X)
is_report X = course_ends (course X) Line.End HasEnded (ends_by X) spelled
