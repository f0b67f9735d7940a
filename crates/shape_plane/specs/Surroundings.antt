-- A point whose near neighbours are asked for by raster numbers.
-- How far the neighbours are behind the point belongs elsewhere.
use Rattle.std.specs.Prelude.{◌≡◌, ℕ, ◌<◌, ◌≤◌, List, length, IsTrue}
use Rattle.shape_terms.specs.Points.{Point, in_box, box_count, raster_point}
use Rattle.shape_terms.specs.Pictures.{Picture, at}
use Rattle.shape_terms.specs.Adjacency.{near_point}
use Rattle.shape_adj.specs.NearMasks.{In}

-- i is the raster number of the point p of the box
pub record IsNumberOf (sides : List ℕ) (p : Point) (i : ℕ) : Type 0 where
  pub bounded : i < box_count sides
  pub is : raster_point sides i ≡ p

-- the box holds the n near neighbours of the point p, and so many distances are known
pub record IsInner (n : ℕ) (sides gaps : List ℕ) (p : Point) : Type 0 where
  pub inside : (k : ℕ) → k < n → IsTrue (in_box sides (near_point p k))
  pub known : n ≤ length gaps

-- m is a set of numbers below n, among them that of each near neighbour of p that is object in L
pub record AreCandidates (n : ℕ) (L : Picture) (p : Point) (m : ℕ) : Type 0 where
  pub below : (k : ℕ) → In m k → k < n
  pub each : (k : ℕ) → k < n → IsTrue (at L (near_point p k)) → In m k
