-- How thick the objects of a picture are: the sums of the diameters at the points of each, and what a table tells of them.
-- The diameter at a point is that of the greatest ball that holds it, and each is rounded to thousandths before it counts.
use Rattle.std.specs.Prelude.{◌≡◌, ℕ, ◌+◌, ◌*◌, ◌/◌, ◌<◌, ◌≤◌, ◌==◌, nat_lt, Bool, List, map, length, filter, sum_by, slice_index, slice_index_or}
use Rattle.std.specs.List.{range_with_len, find}
use Rattle.std.specs.Option.{unwrap_or}
use Rattle.shape_terms.specs.Points.{box_count, raster_number}
use Rattle.shape_terms.specs.Pictures.{Picture}
use Rattle.measure_terms.specs.Measures.{greatest}
use Rattle.measure_terms.specs.Rounding.{root}
use Rattle.measure_terms.specs.Components.{component}

-- ---- sums

-- the diameter in thousandths, rounded to nearest, of a ball of which the squared radius is given
abbrev pub diameter : ℕ → ℕ
diameter t = root (4 * t)

abbrev pub squared_diameter : ℕ → ℕ
squared_diameter t = diameter t * diameter t

-- how thick an object is: how many points it has, the sum of the diameters at them, the sum of the squares of these, and the greatest squared radius
pub record ThicknessSum : Type 0 where
  pub count : ℕ
  pub diameters : ℕ
  pub squares : ℕ
  pub greatest : ℕ

-- the sums of points with these squared radii
abbrev pub sum_of : List ℕ → ThicknessSum
sum_of ts = record {
  count = length ts;
  diameters = sum_by diameter ts;
  squares = sum_by squared_diameter ts;
  greatest = greatest ts;
}

-- the raster numbers below n of the points with a label
abbrev pub labelled : (labels : List ℕ) → (k n : ℕ) → List ℕ
labelled labels k n = filter (λ i. slice_index labels i == k) (range_with_len 0 n)

-- the sums of the objects 1 to n of a box, each the points with its label, where a list gives the squared radius at each point
pub record AreThicknessSums (sides labels : List ℕ) (n : ℕ) (thicknesses : List ℕ) (ss : List ThicknessSum) : Type 0 where
  pub count : length ss ≡ n
  pub each : (k : ℕ) (d : ThicknessSum) → k < n → slice_index_or ss k d ≡ sum_of (map (slice_index thicknesses) (labelled labels (k + 1) (box_count sides)))

-- the sums of the first n components of a picture, by their labels
pub record ThicknessSumsComponents (X : Picture) (labels : List ℕ) (n : ℕ) (thicknesses : List ℕ) (ss : List ThicknessSum) : Type 0 where
  pub count : length ss ≡ n
  pub each : (k : ℕ) (d : ThicknessSum) → k < n
      → slice_index_or ss k d ≡ sum_of (map (λ p. slice_index thicknesses (raster_number X.sides p)) (component X labels (k + 1)))

-- ---- what a table tells of an object

-- m is the mean of the diameters in thousandths, rounded to nearest, and a half up
pub record IsMeanDiameter (s : ThicknessSum) (m : ℕ) : Type 0 where
  pub low : 2 * s.count * m ≤ 2 * s.diameters + s.count
  pub high : 2 * s.diameters + s.count < 2 * s.count * (m + 1)

-- that mean, and 0 where there is no point
abbrev pub mean_diameter : ThicknessSum → ℕ
mean_diameter s = (2 * s.diameters + s.count) / (2 * s.count)

-- r is the standard deviation of the diameters in thousandths, rounded to nearest, and a half up: the square of it is the mean of their squares less the square
-- of their mean
pub record IsDeviation (s : ThicknessSum) (r : ℕ) : Type 0 where
  pub low : (m : ℕ) → m < r → (2 * m + 1) * (2 * m + 1) * (s.count * s.count) + 4 * (s.diameters * s.diameters) ≤ 4 * (s.count * s.squares)
  pub high : 4 * (s.count * s.squares) < (2 * r + 1) * (2 * r + 1) * (s.count * s.count) + 4 * (s.diameters * s.diameters)

-- the deviation is less than r and a half
abbrev pub is_deviation_below : ThicknessSum → (r : ℕ) → Bool
is_deviation_below s r = nat_lt (4 * (s.count * s.squares)) ((2 * r + 1) * (2 * r + 1) * (s.count * s.count) + 4 * (s.diameters * s.diameters))

-- that deviation: the first number that is not half a thousandth or more below it, and 0 where there is no point
unfoldable pub deviation : ThicknessSum → ℕ
deviation s = unwrap_or (find (is_deviation_below s) (range_with_len 0 (s.squares + 1))) 0

-- the greatest diameter in thousandths, rounded to nearest
abbrev pub greatest_diameter : ThicknessSum → ℕ
greatest_diameter s = diameter s.greatest
