-- Where a ball report stands after its lines, and that none is good behind the last one.
-- Laws of lines and states alone; what a whole report shows stands in `HoldsShows`.
use Rattle.std.proofs.Common.{◌≡◌, refl}
use Rattle.text_terms.specs.Spellings.{Spelled}
use Rattle.text_terms.specs.Reports.{IsReport}
use Rattle.text_terms.specs.Courses.{EndsBy, by_course}
use Rattle.text_terms.proofs.CourseLaws.{course_ends}
use Rattle.shape_terms.specs.Pictures.{Picture}
use Rattle.ball_terms.specs.Lines.{Line}
use Rattle.ball_terms.specs.Reports.{Standing, step, Claim, HasEnded, course}

only_end : (s : Standing) (l : Line) → HasEnded (step s l) → l ≡ Line.End
only_end s Line.End h = refl
only_end s (Line.Balls sides m) h = absurd h
only_end Standing.Opening (Line.Ball b) h = absurd h
only_end (Standing.Listing n balls) (Line.Ball b) h = absurd h
only_end Standing.Ended (Line.Ball b) h = absurd h

none_behind : (X : Picture) (s : Standing) (l : Line) → HasEnded s → Claim X s l → ⊥
none_behind X Standing.Ended (Line.Balls sides m) e h = h
none_behind X Standing.Ended (Line.Ball b) e h = h
none_behind X Standing.Ended Line.End e h = h
none_behind X Standing.Opening l e h = e
none_behind X (Standing.Listing n balls) l e h = e

pub ends_by : (X : Picture) → EndsBy (course X) Line.End HasEnded
ends_by X = record { late = λ h. h; here = λ s. tt; only = only_end; none = none_behind X }

-- no line is good behind the end, however lines are spelled
pub is_report : (X : Picture) (T : Spelled Line) → IsReport (by_course T Line.End (course X))
is_report X T = course_ends (course X) Line.End HasEnded (ends_by X) T
