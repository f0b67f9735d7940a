-- The masks that are made of a report: which points, how far they are from the background, or how thick the object is there.
-- A further mask is one more line of each table.
use Rattle.std.specs.Prelude.{ℕ, ◌==◌, if◌then◌else◌, List}
use Rattle.shape_terms.specs.Pictures.{Picture}
use Rattle.report_lines.specs.Said.{Said}
use Rattle.masking.specs.Pictures.{pbm, voxels, pgm, depths, square_bytes, squared_diameters}
use Rattle.masking.specs.declared.mask.Mask.{Mask}
use Rattle.masking.specs.declared.mask.Mask.TheVariants.{Skeleton, Object, Distances, Squares, Thickness}

-- a picture of points with so many axes
abbrev pub points_mask : ℕ → Picture → List ℕ
points_mask d X = if d == 2 then pbm X else voxels X

-- the distances of the points of a box with so many axes
abbrev pub distances_mask : ℕ → (sides squares : List ℕ) → List ℕ
distances_mask d sides squares = if d == 2 then pgm sides squares else depths squares

-- the bytes of a mask, of what a report says
abbrev pub mask_bytes : Mask → ℕ → Said → List ℕ
mask_bytes Skeleton d s = points_mask d s.left
mask_bytes Object d s = points_mask d s.object
mask_bytes Distances d s = distances_mask d s.object.sides s.squares
mask_bytes Squares d s = square_bytes s.squares
mask_bytes Thickness d s = distances_mask d s.object.sides (squared_diameters s.object s.squares)
