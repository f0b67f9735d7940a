-- What the result of a thinning is seen as, and the events of the program as those of the definitions.
-- Contracts of the crates above cite these.
use Rattle.std.specs.Prelude.{ℕ, List}
use Rattle.shape_terms.specs.Points.{Point}
use Rattle.shape_terms.specs.Pictures.{Picture}
use Rattle.shape_terms.specs.Thinning as Terms
use Rattle.shape_thin.specs.declared.event.Event.{Event}
use Rattle.shape_thin.specs.declared.event.Event.TheVariants.{Del, Tip}

-- the events in order, and the points left
pub record Run : Type 0 where
  pub events : List Terms.Event
  pub left : Picture

abbrev pub event_of : {P : Type 0} → (P → Point) → Event P → Terms.Event
event_of coords (Del p) = Terms.Event.Del (coords p)
event_of coords (Tip p) = Terms.Event.Tip (coords p)

-- the point of an event
abbrev pub event_point : Terms.Event → Point
event_point (Terms.Event.Del p) = p
event_point (Terms.Event.Tip p) = p

-- the run is the thinning of X by the rule, which ends in this state
abbrev pub IsRunOf : Terms.Rule → Picture → List ℕ → Run → Type 0
IsRunOf rule X state t = (marked : List Point) × Terms.IsThinning rule X t.events (record { left = t.left; marked = marked; state = state })
