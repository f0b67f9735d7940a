-- A point that is made background by its place.
-- Laws for any number of axes, over pictures alone.
use Rattle.std.proofs.Common.{◌≡◌, ◌<◌, ℕ, false, set, sym}
use Rattle.shape_terms.specs.Points.{box_count, raster_point}
use Rattle.shape_terms.specs.Pictures.{Picture}
use Rattle.shape_terms.specs.Thinning.{without}
use Rattle.shape_terms.proofs.Boxes.{raster_number-raster_point}

-- the picture with a background point at a place is the picture without the point of the place
pub cleared_is : (Y : Picture) (i : ℕ) → i < box_count Y.sides → record { sides = Y.sides; values = set Y.values i false } ≡ without Y (raster_point Y.sides i)
cleared_is Y i l = λ j. record { sides = Y.sides; values = set Y.values (sym (raster_number-raster_point Y.sides i l) j) false }
