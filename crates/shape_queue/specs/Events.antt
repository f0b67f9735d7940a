-- The event of a point, by whether it is marked.
-- An event of a program is this of its point; no other form of events is told here.
use Rattle.std.specs.Prelude.{Bool, if◌then◌else◌}
use Rattle.shape_terms.specs.Points.{Point}
use Rattle.shape_terms.specs.Thinning.{Event}

-- the event of a point that is marked or not
abbrev pub event_by : Bool → Point → Event
event_by tips p = if tips then Event.Tip p else Event.Del p
