-- Which keys wait in the queue of a thinning: those of the points reached that are simple among the points left.
-- Places may be named that are still to be looked at; of them the queue says nothing.
use Rattle.std.specs.Prelude.{◌≡◌, ◌⊎◌, ℕ, ◌<◌, ◌↔◌, Bool, true, cond, List}
use Rattle.shape_terms.specs.Points.{Point, box_count, raster_number, raster_point}
use Rattle.shape_terms.specs.Pictures.{Picture}
use Rattle.shape_terms.specs.Adjacency.{Near}
use Rattle.shape_terms.specs.Parts.{Object}
use Rattle.shape_terms.specs.Simple.{IsSimple}
use Rattle.std.specs.BTreeMap.{is_at}
use Rattle.shape_queue.specs.Keys.{key_cmp}
use Rattle.shape_queue.specs.declared.key.Key.{Key}
use Rattle.shape_queue.specs.Ranks.{key_at}
use Rattle.shape_queue.specs.Standing.{IsAhead}

-- the point of the place is reached and simple
abbrev pub MayBeTaken : List ℕ → Picture → Picture → ℕ → Type 0
MayBeTaken sides left reached i = Object reached (raster_point sides i) × IsSimple left (raster_point sides i)

-- each key is that of a place that is reached, and the key of a place that is not to be looked at later is there exactly where its point may be taken
pub record Waits (sides : List ℕ) (left reached : Picture) (distances : List ℕ) (later : ℕ → Type 0) (has : Key → Bool) : Type 0 where
  pub proper : (k : Key) → has k ≡ true → (k.place < box_count sides) × Object reached (raster_point sides k.place) × (k ≡ key_at distances k.place)
  pub settled : (i : ℕ) → i < box_count sides → (later i → ⊥) → (has (key_at distances i) ≡ true) ↔ MayBeTaken sides left reached i

-- the queue is right after so many places
abbrev pub IsQueue : ℕ → Picture → Picture → List ℕ → (Key → Bool) → Type 0
IsQueue passed left reached distances has = Waits left.sides left reached distances (IsAhead distances passed) has

-- the queue is right but for the near neighbours of p, which are still to be looked at
abbrev pub IsQueueBut : Point → ℕ → Picture → Picture → List ℕ → (Key → Bool) → Type 0
IsQueueBut p passed left reached distances has = Waits left.sides left reached distances (λ i. IsAhead distances passed i ⊎ Near p (raster_point left.sides i))
    has

-- the key is there or not, as b says, and all others as before
abbrev pub Put : (Key → Bool) → (Key → Bool) → Key → Bool → Type 0
Put old new key b = (k : Key) → new k ≡ cond (is_at (key_cmp key) k) b (old k)

-- the key of q is there exactly where q is simple among the points left, and all others are as before
abbrev pub IsLookedAt : Picture → List ℕ → Point → (Key → Bool) → (Key → Bool) → Type 0
IsLookedAt left distances q old new = (b : Bool) × ((b ≡ true) ↔ IsSimple left q) × Put old new (key_at distances (raster_number left.sides q)) b
