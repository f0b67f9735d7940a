-- What a thinning keeps beside its queue: the points left, those of them that it has reached, and the distances of all.
-- Places are passed in the order of their keys. A point is reached when its place is passed, and stays so while it is left and has no mark.
use Rattle.std.specs.Prelude.{◌≡◌, ◌⊎◌, ℕ, ◌≤◌, ◌<◌, ◌↔◌, List, length, slice_index, Contains}
use Rattle.shape_terms.specs.Points.{Point, box_count, raster_number, raster_point}
use Rattle.shape_terms.specs.Pictures.{Picture, object_points}
use Rattle.shape_terms.specs.Adjacency.{near_point}
use Rattle.shape_terms.specs.Parts.{Object}
use Rattle.shape_terms.specs.Thinning.{Stage, HasDistance}
use Rattle.shape_queue.specs.Ranks.{rank_in}

-- the place is passed, after so many in the order of their keys
abbrev pub IsPassed : List ℕ → ℕ → ℕ → Type 0
IsPassed distances passed i = rank_in distances i < passed

-- the place is still ahead
abbrev pub IsAhead : List ℕ → ℕ → ℕ → Type 0
IsAhead distances passed i = passed ≤ rank_in distances i

-- the points reached, and the distances to the background of the opening picture X by raster number, are those of the stage after so many places
pub record Stands (X : Picture) (s : Stage) (reached : Picture) (distances : List ℕ) (passed : ℕ) : Type 0 where
  pub sides : s.left.sides ≡ X.sides
  pub filled : length s.left.values ≡ box_count s.left.sides
  pub listed : length distances ≡ box_count X.sides
  pub reached_sides : reached.sides ≡ s.left.sides
  pub reached_filled : length reached.values ≡ box_count reached.sides
  pub reached_is : (q : Point) → Object reached q ↔ (Object s.left q × (Contains s.marked q → ⊥) × IsPassed distances passed (raster_number X.sides q))
  pub unmarked : (q : Point) → IsAhead distances passed (raster_number X.sides q) → Contains s.marked q → ⊥
  pub distance : (q : Point) → Object s.left q → HasDistance X q (slice_index distances (raster_number X.sides q))
  pub some : (q : Point) → Object s.left q → 0 < slice_index distances (raster_number X.sides q)

-- of the points left so many are ahead
pub record AreAhead (left : Picture) (distances : List ℕ) (passed number : ℕ) : Type 0 where
  pub points : Picture
  pub sides : points.sides ≡ left.sides
  pub filled : length points.values ≡ box_count points.sides
  pub points_are : (q : Point) → Object points q ↔ (Object left q × IsAhead distances passed (raster_number left.sides q))
  pub counted : number ≡ length (object_points points)

-- each object point of the first picture is one of the second
abbrev pub IsSubset : Picture → Picture → Type 0
IsSubset Y Z = (q : Point) → Object Y q → Object Z q

-- the place is that of a near neighbour of p with a number from k on
abbrev pub NearFrom : List ℕ → Point → ℕ → ℕ → ℕ → Type 0
NearFrom sides p n k i = (m : ℕ) × (k ≤ m) × (m < n) × (near_point p m ≡ raster_point sides i)

-- the place is ahead, or that of a near neighbour of p with a number from k on
abbrev pub LaterFrom : List ℕ → ℕ → List ℕ → Point → ℕ → ℕ → ℕ → Type 0
LaterFrom distances passed sides p n k i = IsAhead distances passed i ⊎ NearFrom sides p n k i
