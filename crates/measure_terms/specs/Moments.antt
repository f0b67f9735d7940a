-- The second moments of the objects of a box: how many points each has, and the sums of their coordinates and of the products of two.
-- Points and lists of them alone; the ellipse that has the same second moments stands in `Ellipse`.
use Rattle.std.specs.Prelude.{◌≡◌, ℕ, ◌+◌, ◌*◌, ◌<◌, ◌==◌, List, length, slice_index, slice_index_or, nat_abs, filter, sum_by}
use Rattle.shape_terms.specs.Points.{Point, coordinate, raster_number, box_points}
use Rattle.shape_terms.specs.Pictures.{Picture}
use Rattle.measure_terms.specs.Components.{component}

-- ---- moments of points

-- how many points there are, the sums of the coordinates, and the sums of the products of two coordinates
pub record Moments : Type 0 where
  pub count : ℕ
  pub x : ℕ
  pub y : ℕ
  pub z : ℕ
  pub xx : ℕ
  pub xy : ℕ
  pub yy : ℕ
  pub xz : ℕ
  pub yz : ℕ
  pub zz : ℕ

-- a coordinate of a point of a box, and 0 on an axis that the space does not have
abbrev pub place : ℕ → Point → ℕ
place k p = nat_abs (coordinate p k)

-- the sum of one coordinate
abbrev pub first_moment : (k : ℕ) → List Point → ℕ
first_moment k ps = sum_by (place k) ps

-- the sum of the products of two coordinates
abbrev pub second_moment : (j k : ℕ) → List Point → ℕ
second_moment j k ps = sum_by (λ p. place j p * place k p) ps

abbrev pub moments_of : List Point → Moments
moments_of ps = record {
  count = length ps;
  x = first_moment 0 ps;
  y = first_moment 1 ps;
  z = first_moment 2 ps;
  xx = second_moment 0 0 ps;
  xy = second_moment 0 1 ps;
  yy = second_moment 1 1 ps;
  xz = second_moment 0 2 ps;
  yz = second_moment 1 2 ps;
  zz = second_moment 2 2 ps;
}

-- ---- moments of objects

-- the points of a box with a label, in raster order
abbrev pub labelled : (sides labels : List ℕ) → ℕ → List Point
labelled sides labels k = filter (λ p. slice_index labels (raster_number sides p) == k) (box_points sides)

-- those of the objects 1 to n of a box, each the points with its label
pub record AreMoments (sides labels : List ℕ) (n : ℕ) (ms : List Moments) : Type 0 where
  pub count : length ms ≡ n
  pub each : (k : ℕ) (d : Moments) → k < n → slice_index_or ms k d ≡ moments_of (labelled sides labels (k + 1))

-- those of the first n components of a picture, by their labels
pub record MomentsComponents (X : Picture) (labels : List ℕ) (n : ℕ) (ms : List Moments) : Type 0 where
  pub count : length ms ≡ n
  pub each : (k : ℕ) (d : Moments) → k < n → slice_index_or ms k d ≡ moments_of (component X labels (k + 1))
