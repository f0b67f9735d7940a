-- Inks: a colour in one of four shades, and the places of a grid that show one.
-- How an ink looks on a screen does not matter here.
use Rattle.std.specs.Prelude.{ℕ, Bool, false, ◌==◌, ◌&&◌, List, filter, Option, Some, None}
use Rattle.shape_terms.specs.Points.{Point, box_points}
use Rattle.drawing.specs.declared.cell.Cell.{Cell}
use Rattle.drawing.specs.Canvas.{Canvas, cell_at}

-- what is shown is of this colour and shade
abbrev pub has_ink : ℕ → ℕ → Option Cell → Bool
has_ink colour shade None = false
has_ink colour shade (Some c) = (c.colour == colour) && (c.shade == shade)

-- the places of the grid that show an ink, in raster order
abbrev pub points_with : Canvas → ℕ → ℕ → List Point
points_with C colour shade = filter (λ q. has_ink colour shade (cell_at C q)) (box_points C.sides)
