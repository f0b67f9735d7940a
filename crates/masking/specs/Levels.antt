-- The distances that a mask of them tells, their squares, or the thicknesses, place by place.
-- How the bytes are put together stands in `Pictures`.
use Rattle.std.specs.Prelude.{◌≡◌, ◌+◌, ◌*◌, ◌^◌, ◌<◌, ◌≤◌, ℕ, IsTrue, false, List, length, slice_get, slice_index, Some}
use Rattle.shape_terms.specs.Points.{box_count, raster_point}
use Rattle.shape_terms.specs.Pictures.{Picture, at}
use Rattle.shape_terms.specs.Thinning.{HasDistance}
use Rattle.measure_terms.specs.Thickness.{IsThickness}
use Rattle.masking.specs.Roots.{IsRoot}

-- v is the distance in hundredths, rounded down, of which the square is given; it is 65535 where that is greater
pub record IsLevel (square v : ℕ) : Type 0 where
  pub most : v ≤ 65535
  pub less : v < 65535 → IsRoot (10000 * square) v
  pub great : v ≡ 65535 → 65535 * 65535 ≤ 10000 * square

-- the number of two bytes, the higher of which comes first or last
abbrev pub high_number : (a b : ℕ) → ℕ
high_number a b = 256 * a + b

abbrev pub low_number : (a b : ℕ) → ℕ
low_number a b = a + 256 * b

-- the number that the bytes have at place i, two bytes for each place
abbrev pub number_at : (ℕ → ℕ → ℕ) → List ℕ → ℕ → ℕ
number_at number bytes i = number (slice_index bytes (2 * i)) (slice_index bytes (2 * i + 1))

-- the bytes have two for each square, and at its place the level of it
pub record AreLevels (number : ℕ → ℕ → ℕ) (squares bytes : List ℕ) : Type 0 where
  pub as_many : length bytes ≡ 2 * length squares
  pub each : (i n : ℕ) → slice_get squares i ≡ Some n → IsLevel n (number_at number bytes i)

-- v is the square, and 4294967295 where that is greater
pub record IsTold (square v : ℕ) : Type 0 where
  pub exact : square < 2 ^ 32 → v ≡ square
  pub great : 2 ^ 32 ≤ square → v ≡ 4294967295

-- the number that the bytes have at place i, four bytes for each place, the lowest of which comes first
abbrev pub number32_at : List ℕ → ℕ → ℕ
number32_at bytes i = slice_index bytes (4 * i) + 256 * slice_index bytes (4 * i + 1) + 65536 * slice_index bytes (4 * i + 2) + 16777216 * slice_index bytes
    (4 * i + 3)

-- the bytes have four for each square, and at its place the number that stands for it
pub record AreTold (squares bytes : List ℕ) : Type 0 where
  pub as_many : length bytes ≡ 4 * length squares
  pub each : (i n : ℕ) → slice_get squares i ≡ Some n → IsTold n (number32_at bytes i)

-- the bytes have two for each point of the box, in raster order: at an object point the level of its squared distance to the background, and at any other 0
pub record AreDepths (number : ℕ → ℕ → ℕ) (X : Picture) (bytes : List ℕ) : Type 0 where
  pub as_many : length bytes ≡ 2 * box_count X.sides
  pub object : (i : ℕ) → i < box_count X.sides → IsTrue (at X (raster_point X.sides i))
      → (n : ℕ) × HasDistance X (raster_point X.sides i) n × IsLevel n (number_at number bytes i)
  pub background : (i : ℕ) → i < box_count X.sides → at X (raster_point X.sides i) ≡ false → number_at number bytes i ≡ 0

-- the bytes have four for each point of the box, in raster order: at an object point its squared distance to the background, and at any other 0
pub record AreSquaredDepths (X : Picture) (bytes : List ℕ) : Type 0 where
  pub as_many : length bytes ≡ 4 * box_count X.sides
  pub object : (i : ℕ) → i < box_count X.sides → IsTrue (at X (raster_point X.sides i)) → HasDistance X (raster_point X.sides i) (number32_at bytes i)
  pub background : (i : ℕ) → i < box_count X.sides → at X (raster_point X.sides i) ≡ false → number32_at bytes i ≡ 0

-- the bytes have two for each point of the box, in raster order: at an object point the level of the squared diameter of the greatest ball of the object that
-- holds it, and at any other 0
pub record AreDiameters (number : ℕ → ℕ → ℕ) (X : Picture) (bytes : List ℕ) : Type 0 where
  pub as_many : length bytes ≡ 2 * box_count X.sides
  pub object : (i : ℕ) → i < box_count X.sides → IsTrue (at X (raster_point X.sides i))
      → (t : ℕ) × IsThickness X (raster_point X.sides i) t × IsLevel (4 * t) (number_at number bytes i)
  pub background : (i : ℕ) → i < box_count X.sides → at X (raster_point X.sides i) ≡ false → number_at number bytes i ≡ 0
