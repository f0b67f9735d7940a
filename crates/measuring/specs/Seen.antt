-- The spots of the objects of a box that were seen, as their rows.
-- Labels are taken as they stand.
use Rattle.std.specs.Prelude.{◌≡◌, ◌≢◌, ℕ, ◌+◌, ◌<◌, ◌≤◌, List, length, slice_index_or}
use Rattle.shape_terms.specs.Points.{raster_number}
use Rattle.measure_terms.specs.Feret.{HasLabel}
use Rattle.measuring.specs.declared.spot.Spot.{Spot}
use Rattle.measuring.specs.declared.object_row.Row.{Row}
use Rattle.measuring.specs.declared.outline.Outline.{Outline}
use Rattle.measuring.specs.FeretsTold.{spot_point}
use Rattle.measuring.specs.Rows.{row_at, AreRows, AreRowsOf}

-- the spots with a label whose raster numbers are below a number
pub record IsSeen (sides labels : List ℕ) (k i : ℕ) (p : Spot) : Type 0 where
  pub is : HasLabel sides labels k (spot_point p)
  pub below : raster_number sides (spot_point p) < i

-- one spot more stands in its row: in the last one, as its last, or in a new one
pub record IsWidened (p : Spot) (old new : List Row) : Type 0 where
  pub all : length new ≡ length old
  pub some : 1 ≤ length old
  pub same : (k : ℕ) → k + 1 < length old → row_at new k ≡ row_at old k
  pub row : (k : ℕ) → k + 1 ≡ length old → (row_at old k).y ≡ p.y
  pub last : (k : ℕ) → k + 1 ≡ length old → row_at new k ≡ record (row_at old k) { right = p.x }

pub record IsBegun (p : Spot) (old new : List Row) : Type 0 where
  pub all : length new ≡ length old + 1
  pub same : (k : ℕ) → k < length old → row_at new k ≡ row_at old k
  pub other : (k : ℕ) → k + 1 ≡ length old → (row_at old k).y ≢ p.y
  pub last : row_at new (length old) ≡ record { y = p.y; left = p.x; right = p.x }

-- the objects 1 to n have these rows
pub record HaveRows (sides labels : List ℕ) (n i : ℕ) (all : List Outline) : Type 0 where
  pub count : length all ≡ n
  pub each : (k : ℕ) (d : Outline) → k < n → AreRowsOf (IsSeen sides labels (k + 1) i) (slice_index_or all k d).rows.items

-- the rows of each object are in order
pub record AreInOrder (all : List Outline) : Type 0 where
  pub each : (k : ℕ) (o : Outline) → k < length all → AreRows (slice_index_or all k o).rows.items
