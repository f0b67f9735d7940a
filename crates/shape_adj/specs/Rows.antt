-- The points of a row of the box, and their places in the framed box.
-- Said of sides and numbers alone.
use Rattle.std.specs.Prelude.{◌≡◌, ℕ, ◌+◌, ◌-◌, ◌<◌, ◌≤◌, List}
use Rattle.shape_terms.specs.Points.{raster_point}
use Rattle.shape_terms.specs.Places.{framed_number}

-- the number in the framed box of the point with a raster number
abbrev pub placed : List ℕ → ℕ → ℕ
placed sides i = framed_number sides (raster_point sides i)

-- the points from first up to before end have the places from that of the first on, in order
pub record IsRow (sides : List ℕ) (first end place : ℕ) : Type 0 where
  pub each : (j : ℕ) → first ≤ j → j < end → placed sides j ≡ place + (j - first)
