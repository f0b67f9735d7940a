-- Lists of numbers that are painted: a place that has 0 is bare, and only bare places get a number.
-- What the numbers mean belongs elsewhere.
use Rattle.std.specs.Prelude.{◌≡◌, ◌⊎◌, ℕ, ◌+◌, ◌<◌, ◌≤◌, true, List, length, slice_index}
use Rattle.shape_terms.specs.Limits.{most_points}
use Rattle.shape_terms.specs.Points.{Point, box_count, raster_number, raster_point}
use Rattle.shape_terms.specs.Pictures.{Picture, at}
use Rattle.shape_window.specs.Windows.{is_nearer}

-- of the places, some bare ones that may be painted have got s, none of those that must be is bare, and all others are as before
pub record IsPainted (may must : ℕ → Type 0) (s : ℕ) (old new : List ℕ) : Type 0 where
  pub same_length : length new ≡ length old
  pub each : (j : ℕ) → j < length old → (slice_index new j ≡ slice_index old j) ⊎ ((slice_index old j ≡ 0) × (slice_index new j ≡ s) × may j)
  pub filled : (j : ℕ) → j < length old → must j → 0 < slice_index new j

-- the place is one from the first to before the end
abbrev pub IsFrom : ℕ → ℕ → ℕ → Type 0
IsFrom first end j = (first ≤ j) × (j < end)

-- the point of the place is nearer to c than the squared distance
abbrev pub IsNearPlace : List ℕ → Point → ℕ → ℕ → Type 0
IsNearPlace sides c s j = is_nearer c s (raster_point sides j) ≡ true

-- and the place is one of so many from that of q on
abbrev pub IsNearRow : List ℕ → Point → ℕ → Point → ℕ → ℕ → Type 0
IsNearRow sides c s q width j = IsNearPlace sides c s j × IsFrom (raster_number sides q) (raster_number sides q + width) j

-- where a place is told to be followed by painted ones up to another, it is
pub record AreSkips (values next : List ℕ) : Type 0 where
  pub few : length values ≤ most_points
  pub same_length : length next ≡ length values
  pub within : (i : ℕ) → i < length values → slice_index next i ≤ length values
  pub painted : (i j : ℕ) → i < length values → i ≤ j → j < slice_index next i → 0 < slice_index values j

-- each object point of the picture, in the box of these sides, is a painted place
pub record IsKnown (sides : List ℕ) (Y : Picture) (values : List ℕ) : Type 0 where
  pub sides_are : Y.sides ≡ sides
  pub painted : (i : ℕ) → i < box_count sides → at Y (raster_point sides i) ≡ true → 0 < slice_index values i
