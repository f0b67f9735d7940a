-- The moments of the objects of a box while its points are taken in raster order, and what one point more adds.
-- A further sum is one more field here.
use Rattle.std.specs.Prelude.{◌≡◌, ℕ, ◌+◌, ◌*◌, ◌<◌, ◌==◌, List, length, map, slice_index, slice_index_or, filter}
use Rattle.std.specs.List.{range_with_len}
use Rattle.shape_terms.specs.Points.{Point, raster_number, raster_point}
use Rattle.measure_terms.specs.Moments.{Moments, place, moments_of}

-- the moments with one point more
abbrev pub moments_with : Moments → Point → Moments
moments_with m p = record {
  count = m.count + 1;
  x = m.x + place 0 p;
  y = m.y + place 1 p;
  z = m.z + place 2 p;
  xx = m.xx + place 0 p * place 0 p;
  xy = m.xy + place 0 p * place 1 p;
  yy = m.yy + place 1 p * place 1 p;
  xz = m.xz + place 0 p * place 2 p;
  yz = m.yz + place 1 p * place 2 p;
  zz = m.zz + place 2 p * place 2 p;
}

-- the points with a label whose raster numbers are below i
abbrev pub labelled_below : (sides labels : List ℕ) (k i : ℕ) → List Point
labelled_below sides labels k i = filter (λ p. slice_index labels (raster_number sides p) == k) (map (raster_point sides) (range_with_len 0 i))

-- the moments of the objects 1 to n, of their points with raster numbers below i
pub record AreMomentsSoFar (sides labels : List ℕ) (n i : ℕ) (ms : List Moments) : Type 0 where
  pub count : length ms ≡ n
  pub each : (k : ℕ) (d : Moments) → k < n → slice_index_or ms k d ≡ moments_of (labelled_below sides labels (k + 1) i)
