-- Points of a box, each at most once, as a list and as the numbers of the object points of a picture.
-- Which points these are belongs elsewhere.
use Rattle.std.specs.Prelude.{◌≢◌, ℕ, ◌<◌, ◌≤◌, ◌↔◌, List, length, IsTrue, AllPairs, Contains}
use Rattle.shape_terms.specs.Points.{Point, in_box, box_count, raster_point}
use Rattle.shape_terms.specs.Pictures.{Picture, at}

-- the sides of the box, the points, and how many of them there is room for
pub record Listing : Type 0 where
  pub sides : List ℕ
  pub points : List Point
  pub room : ℕ

abbrev pub listing_of : List ℕ → List Point → ℕ → Listing
listing_of sides points room = record { sides = sides; points = points; room = room }

-- the points are of the box, and no two of them are equal
pub record AreListed (sides : List ℕ) (points : List Point) : Type 0 where
  pub inside : (p : Point) → Contains points p → IsTrue (in_box sides p)
  pub apart : AllPairs (λ p q. p ≢ q) points

-- the numbers are those of the object points of the picture, and no two of them are equal
pub record AreNumbered (marks : Picture) (numbers : List ℕ) : Type 0 where
  pub apart : AllPairs (λ m n. m ≢ n) numbers
  pub below : (n : ℕ) → Contains numbers n → n < box_count marks.sides
  pub marked : (n : ℕ) → n < box_count marks.sides → IsTrue (at marks (raster_point marks.sides n)) ↔ Contains numbers n

-- the object points of the picture are among so many points as there is room for
pub record HasRoomFor (X : Picture) (room : ℕ) : Type 0 where
  pub among : List Point
  pub each : (q : Point) → IsTrue (at X q) → Contains among q
  pub fits : length among ≤ room

-- the numbers are those of the marked points, which are object points of X, and there is room for the number of each object point of X
pub record AreNumberedOf (X marks : Picture) (numbers : List ℕ) (room : ℕ) : Type 0 where
  pub numbered : AreNumbered marks numbers
  pub within : (q : Point) → IsTrue (at marks q) → IsTrue (at X q)
  pub room_for : HasRoomFor X room
