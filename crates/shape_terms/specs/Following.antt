-- A thinning as it is followed, event by event: which event comes next, and when all have come.
-- Whoever writes the events down, or judges them, belongs elsewhere.
use Rattle.std.specs.Prelude.{List}
use Rattle.shape_terms.specs.Pictures.{Picture}
use Rattle.shape_terms.specs.Thinning.{Rule, Event, Stage, ThinsTo, ThinStep, IsThinned}

-- e is the event that the rule gives next, after these events
abbrev pub IsNextEvent : Rule → Picture → List Event → Event → Type 0
IsNextEvent rule X events e = (s : Stage) × (s' : Stage) × ThinsTo rule X events s × ThinStep rule X s e s'

-- the events lead to a stage in which no unmarked simple point is left
abbrev pub AreAllEvents : Rule → Picture → List Event → Type 0
AreAllEvents rule X events = (s : Stage) × ThinsTo rule X events s × IsThinned s
