-- What a thinning between two events stands for, and how it goes on.
-- How its parts hold that is told by the queue's own terms.
use Rattle.std.specs.Prelude.{◌≡◌, ℕ, ◌<◌, Bool, true, false, List, [], ◌∷◌, ◌++◌, pos, negsuc}
use Rattle.shape_terms.specs.Limits.{most_coordinate}
use Rattle.shape_terms.specs.Points.{Point, box_count, raster_point}
use Rattle.shape_terms.specs.Pictures.{Picture}
use Rattle.shape_terms.specs.FramedBox.{IsWithin}
use Rattle.shape_terms.specs.Thinning.{Rule, Event, near_count}
use Rattle.shape_queue.specs.declared.key.Key.{Key}
use Rattle.shape_queue.specs.Keys.{has, IsLeastKey}
use Rattle.shape_queue.specs.Events.{event_by}
use Rattle.shape_queue.specs.Going.{IsGoing}
use Rattle.shape_rules.specs.FactsOf.{facts_of}
use Rattle.shape_adj.specs.NearMasks.{IsNearMask}
use Rattle.shape_thin.specs.declared.next.Next.{Next}
use Rattle.shape_thin.specs.declared.thinner.Thinner.{Thinner}
use Rattle.shape_thin.specs.Fronts.{reach_of, room_in}

-- the key of a point with its facts
abbrev pub key_of : {P : Type 0} → Next P → Key
key_of n = record { distance = n.facts.distance; place = n.place }

-- n is the point q with the least of the keys, what a rule is told of it, and which near neighbours it has among the points left
pub record IsNextIn {P : Type 0} (left : Picture) (keys : Key → Bool) (n : Next P) (q : Point) : Type 0 where
  pub there : keys (key_of n) ≡ true
  pub least : IsLeastKey keys (key_of n)
  pub inside : n.place < box_count left.sides
  pub place : q ≡ raster_point left.sides n.place
  pub within : IsWithin (negsuc 0) (pos most_coordinate) q
  pub near : n.facts.neighbours ≡ near_count left q
  pub mask : IsNearMask left q n.mask

module _ {P : Type 0} {pairs : _} {point : _} {eq : _} {order : _} {partial : _} where
  -- these are the events so far of the thinning of X by the rule, which is in this state now
  abbrev pub StandsFor : Rule → Picture → List Event → List ℕ → Thinner P pairs point eq order partial → Type 0
  StandsFor rule X events state t = IsGoing rule X events state t.left (reach_of t.front)

  -- how many events may still come
  abbrev pub room_of : Thinner P pairs point eq order partial → ℕ
  room_of t = room_in t.front

  -- how many of the points left are still to be reached
  abbrev pub ahead_of : Thinner P pairs point eq order partial → ℕ
  ahead_of t = t.front.ahead

  -- no point waits, and none is ahead
  abbrev pub IsAtEnd : Thinner P pairs point eq order partial → Type 0
  IsAtEnd t = ((k : Key) → has t.front.keys k ≡ false) × (t.front.ahead ≡ 0)

  -- n is the next point q of the thinning: that with the least of the keys that wait
  abbrev pub IsNextOf : Thinner P pairs point eq order partial → Next P → Point → Type 0
  IsNextOf t n q = IsNextIn t.left (has t.front.keys) n q

  -- after q is marked, or deleted, as the rule says, the thinning has this event more
  abbrev pub GoesOn : Thinner P pairs point eq order partial → Next P → Point → Bool → Thinner P pairs point eq order partial → Type 0
  GoesOn old n q tips new = (rule : Rule) (X : Picture) (events : List Event) (state : List ℕ) → StandsFor rule X events state old
      → rule.marks state (facts_of n.facts) ≡ tips → StandsFor rule X (events ++ event_by tips q ∷ []) (rule.next state (facts_of n.facts)) new
