-- Raw volumes: one byte for each point of a box and nothing else, the first axis fastest and the last slowest.
-- The sides are not in the file; whoever reads it knows them.
use Rattle.std.specs.Prelude.{◌≡◌, ℕ, ◌<◌, ◌==◌, Bool, not, List, length, map}
use Rattle.shape_terms.specs.Points.{box_count}
use Rattle.shape_terms.specs.Pictures.{Picture}
use Rattle.shape_picture.specs.declared.fault.PictureFault.{PictureFault}
use Rattle.shape_picture.specs.declared.fault.PictureFault.TheVariants as fault

-- background is the byte 0; each other byte is object
abbrev pub is_object : ℕ → Bool
is_object c = not (c == 0)

-- the bytes spell the picture of these sides: they are as many as the box has points, and the point with raster number i
-- is object exactly where byte i is not 0
pub record Raw (sides bytes : List ℕ) (X : Picture) : Type 0 where
  pub as_many : length bytes ≡ box_count sides
  pub sides_are : X.sides ≡ sides
  pub values : X.values ≡ map is_object bytes

-- the bytes have the fault: they are fewer than the points of the box, and so many, or they are more
abbrev pub RawFault : (sides bytes : List ℕ) → PictureFault → Type 0
RawFault sides bytes (fault.Short n) = (n ≡ length bytes) × (n < box_count sides)
RawFault sides bytes fault.Trailing = box_count sides < length bytes
RawFault sides bytes _ = ⊥
