-- The Feret diameter of an object: the greatest distance between two of its points.
-- Sets of points of any space and their squared distances alone; how it is found stands elsewhere.
use Rattle.std.specs.Prelude.{◌≡◌, ℕ, ◌+◌, ◌<◌, ◌≤◌, List, slice_index, slice_index_or, IsTrue}
use Rattle.shape_terms.specs.Points.{Point, in_box, raster_number}

-- two points, and their squared distance
pub record Feret : Type 0 where
  pub square : ℕ
  pub from : Point
  pub to : Point

-- of a set of points of a box, two at the greatest distance, where `square` gives squared distances: the first, in raster order, that has a point at that
-- distance, and the last one at that distance from it
pub record IsFeret (square : Point → Point → ℕ) (sides : List ℕ) (S : Point → Type 0) (f : Feret) : Type 0 where
  pub from_in : S f.from
  pub to_in : S f.to
  pub distance : f.square ≡ square f.from f.to
  pub greatest : (p q : Point) → S p → S q → square p q ≤ f.square
  pub first : (p q : Point) → S p → S q → square p q ≡ f.square → raster_number sides f.from ≤ raster_number sides p
  pub last : (q : Point) → S q → square f.from q ≡ f.square → raster_number sides q ≤ raster_number sides f.to

-- the points of a box with a label
pub record HasLabel (sides labels : List ℕ) (k : ℕ) (p : Point) : Type 0 where
  pub inside : IsTrue (in_box sides p)
  pub label : slice_index labels (raster_number sides p) ≡ k

-- the Feret diameters of the objects 1 to n of a box, each with two points, where an object has a point
pub record AreFerets (square : Point → Point → ℕ) (sides labels : List ℕ) (n : ℕ) (fs : List Feret) : Type 0 where
  pub each : (k : ℕ) (d : Feret) (p : Point) → k < n → HasLabel sides labels (k + 1) p
      → IsFeret square sides (HasLabel sides labels (k + 1)) (slice_index_or fs k d)
