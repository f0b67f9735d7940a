-- How far a front has come, how many events it has room for, and how a key is taken out of it.
-- What a front says of a thinning is told by the queue's own terms.
use Rattle.std.specs.Prelude.{◌≡◌, ℕ, ◌+◌, false, length}
use Rattle.shape_terms.specs.Points.{raster_point}
use Rattle.shape_terms.specs.Pictures.{object_points}
use Rattle.shape_terms.specs.Thinning.{without}
use Rattle.shape_queue.specs.declared.key.Key.{Key}
use Rattle.shape_queue.specs.Keys.{has}
use Rattle.shape_queue.specs.Waiting.{Put}
use Rattle.shape_queue.specs.Going.{Reach}
use Rattle.shape_thin.specs.declared.front.Front.{Front}

-- how far the front has come: the points that it has reached, the distances and the keys of its queue, the places passed, and the points ahead
abbrev pub reach_of : {P : Type 0} → Front P → Reach
reach_of f = record { reached = f.reached; distances = f.keys.distances; keys = has f.keys; passed = f.passed; ahead = f.ahead }

-- the points that are reached, and those that are ahead: each is marked or deleted once at most
abbrev pub room_in : {P : Type 0} → Front P → ℕ
room_in f = length (object_points f.reached) + f.ahead

-- new is the front old without this key and its point: the distances are the same, as many places are passed, and as many points are ahead
pub record IsTakenOut (k : Key) (old new : Reach) : Type 0 where
  pub put : Put old.keys new.keys k false
  pub distances : new.distances ≡ old.distances
  pub reached : new.reached ≡ without old.reached (raster_point old.reached.sides k.place)
  pub passed : new.passed ≡ old.passed
  pub ahead : new.ahead ≡ old.ahead
