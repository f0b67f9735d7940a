-- The values of a framed box: one for each of its points, true where the point is an object point.
-- How they are kept does not matter here.
use Rattle.std.specs.Prelude.{◌≡◌, ℕ, ◌<◌, ◌≤◌, Bool, false, List, length, slice_index_or}
use Rattle.shape_terms.specs.Points.{box_count}
use Rattle.shape_terms.specs.Pictures.{Picture, at}
use Rattle.shape_terms.specs.FramedBox.{framed_sides, framed_point}

-- the values of the framed points before number n are those of the picture, and the others are false so far
pub record AreValuesTo (X : Picture) (n : ℕ) (values : List Bool) : Type 0 where
  pub long : length values ≡ box_count (framed_sides X.sides)
  pub each : (i : ℕ) → i < n → slice_index_or values i false ≡ at X (framed_point X.sides i)
  pub rest : (i : ℕ) → n ≤ i → slice_index_or values i false ≡ false

-- the value of each framed point is that of the picture
abbrev pub AreFramedValues : Picture → List Bool → Type 0
AreFramedValues X values = AreValuesTo X (box_count (framed_sides X.sides)) values
