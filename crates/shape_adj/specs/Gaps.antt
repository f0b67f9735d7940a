-- How far a neighbour is behind its point in raster order: as far as from any other point of the box.
-- The numbers wrap round at 2^32, since a neighbour may come before its point.
use Rattle.std.specs.Prelude.{◌≡◌, ℕ, ◌+◌, ◌%◌, ◌^◌, ◌<◌, List, length, slice_index, IsTrue}
use Rattle.shape_terms.specs.Points.{Point, in_box, box_count, raster_number, raster_point}

-- neighbour k of each point comes so many places behind it, where it is in the box
abbrev pub IsGap : List ℕ → (Point → ℕ → Point) → ℕ → ℕ → Type 0
IsGap sides neighbour k gap = (i : ℕ) → i < box_count sides → IsTrue (in_box sides (neighbour (raster_point sides i) k))
    → raster_number sides (neighbour (raster_point sides i) k) ≡ (i + gap) % 2 ^ 32

-- the numbers are those of the first neighbours
abbrev pub AreGaps : List ℕ → (Point → ℕ → Point) → List ℕ → Type 0
AreGaps sides neighbour gaps = (k : ℕ) → k < length gaps → IsGap sides neighbour k (slice_index gaps k)
