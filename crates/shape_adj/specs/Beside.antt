-- The rows beside a row of the box, and those beside a row of the framed box.
-- A row is told by its first place; which places of two rows are adjacent belongs elsewhere.
use Rattle.std.specs.Prelude.{ℕ, Bool, ◌&&◌, Option}
use Rattle.std.specs.Ordering.{int_eq}
use Rattle.shape_terms.specs.Points.{Point, coordinate, in_box, raster_number, raster_point}
use Rattle.shape_terms.specs.Pictures.{Picture}
use Rattle.shape_terms.specs.FramedBox.{framed_point}
use Rattle.shape_terms.specs.Adjacency.{near_point, side_point}
use Rattle.shape_terms.specs.Places.{place_if, in_frame, framed_number}

-- the points have one first coordinate
abbrev pub same_first : Point → Point → Bool
same_first p q = int_eq (coordinate q 0) (coordinate p 0)

-- the place of near neighbour k of the first point of a row, where it is in the box and is the first of its row too
abbrev pub object_beside : Picture → ℕ → ℕ → Option ℕ
object_beside X start k = let p = raster_point X.sides start in let q = near_point p k in place_if (same_first p q && in_box X.sides q) (raster_number
    X.sides q)

-- the same of side neighbour k in the framed box
abbrev pub background_beside : Picture → ℕ → ℕ → Option ℕ
background_beside X start k = let p = framed_point X.sides start in let q = side_point p k in place_if (same_first p q && in_frame X.sides q) (framed_number
    X.sides q)
