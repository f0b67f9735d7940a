-- Balls of object points, and lists of balls that make up the object.
-- How such a list is found belongs elsewhere, and how a report spells it stands in `Lines`.
use Rattle.std.specs.Prelude.{◌≡◌, ◌≢◌, ◌↔◌, ℕ, ◌<◌, ◌≤◌, List, length, take, slice_get, Some, IsTrue, All}
use Rattle.shape_terms.specs.Points.{Point, IsPoint, squared_distance}
use Rattle.shape_terms.specs.Steps.{Before}
use Rattle.shape_terms.specs.Pictures.{Picture, at, object_points, Least}

-- the ball of an object point: its centre, a nearest background point, their squared distance, and a point that is to be in no other ball
pub record Ball : Type 0 where
  pub centre : Point
  pub near : Point
  pub s : ℕ
  pub own : Point

-- a ball by its parts
abbrev pub ball_by : Point → Point → ℕ → Point → Ball
ball_by centre near s own = record { centre = centre; near = near; s = s; own = own }

-- the points of the picture's space that are nearer to the centre than the background is
pub record InBall (X : Picture) (b : Ball) (p : Point) : Type 0 where
  pub point : IsPoint (length X.sides) p
  pub nearer : squared_distance b.centre p < b.s

-- the claim of a ball after the earlier ones
pub record BallClaim (X : Picture) (earlier : List Ball) (b : Ball) : Type 0 where
  pub object : IsTrue (at X b.centre)
  pub after : All (λ e. Before e.centre b.centre) earlier
  pub least : Least X b.centre b.near b.s
  pub own : InBall X b b.own
  pub in_no_earlier : All (λ e. InBall X e b.own → ⊥) earlier
  pub no_earlier_in : All (λ e. InBall X b e.own → ⊥) earlier

-- the claim of each ball is true after the earlier ones
abbrev pub AreGood : Picture → List Ball → Type 0
AreGood X balls = (k : ℕ) (b : Ball) → slice_get balls k ≡ Some b → BallClaim X (take k balls) b

-- the point is in a ball of the list
abbrev pub InUnion : Picture → List Ball → Point → Type 0
InUnion X balls p = (k : ℕ) × (b : Ball) × (slice_get balls k ≡ Some b) × InBall X b p

-- the point is in a ball of the list other than that in the place k
abbrev pub InOthers : Picture → List Ball → ℕ → Point → Type 0
InOthers X balls k p = (j : ℕ) × (b : Ball) × (j ≢ k) × (slice_get balls j ≡ Some b) × InBall X b p

-- each object point is in a ball
abbrev pub CoverObject : Picture → List Ball → Type 0
CoverObject X balls = (p : Point) → IsTrue (at X p) → InUnion X balls p

-- a list of balls as a report holds it: no more than object points, the claim of each true after the earlier ones, and each object point in a ball
pub record AreBalls (X : Picture) (balls : List Ball) : Type 0 where
  pub few : length balls ≤ length (object_points X)
  pub each : AreGood X balls
  pub all : CoverObject X balls

-- the object is exactly the union of the balls, and without any one of them it is not
pub record AreUnion (X : Picture) (balls : List Ball) : Type 0 where
  pub union : (p : Point) → IsTrue (at X p) ↔ InUnion X balls p
  pub needed : (k : ℕ) → k < length balls → (p : Point) × IsTrue (at X p) × (InOthers X balls k p → ⊥)
