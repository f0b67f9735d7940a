-- The sums of the objects while points are taken in raster order.
-- Labels are taken as they stand.
use Rattle.std.specs.Prelude.{◌≡◌, ℕ, ◌+◌, ◌<◌, List, map, length, slice_index, slice_index_or}
use Rattle.measure_terms.specs.ThicknessColumns.{ThicknessSum, sum_of, labelled}

-- those of the objects 1 to n, of their points with raster numbers below i
pub record AreSumsSoFar (labels : List ℕ) (n : ℕ) (thicknesses : List ℕ) (i : ℕ) (ss : List ThicknessSum) : Type 0 where
  pub count : length ss ≡ n
  pub each : (k : ℕ) (d : ThicknessSum) → k < n → slice_index_or ss k d ≡ sum_of (map (slice_index thicknesses) (labelled labels (k + 1) i))
