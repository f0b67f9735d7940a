-- The object and the background of a picture as sets of numbered places.
-- Object points have their raster numbers in the box, background points theirs in the framed box.
use Rattle.std.specs.Prelude.{◌≡◌, ℕ, ◌<◌, Bool, false, ◌&&◌, not, cond, List, map, Option, Some, None, pos, ◌+ℤ◌}
use Rattle.shape_terms.specs.Points.{Point, in_box, box_count, raster_number, raster_point}
use Rattle.shape_terms.specs.Pictures.{Picture, at}
use Rattle.shape_terms.specs.FramedBox.{framed_sides, framed_point}
use Rattle.shape_terms.specs.Adjacency.{Near, Side, near_point, side_point}
use Rattle.shape_terms.specs.Parts.{Object}

-- the number of a place, where there is one
abbrev pub place_if : Bool → ℕ → Option ℕ
place_if there i = cond there (Some i) None

-- ---- object points

abbrev pub ObjectPlace : Picture → ℕ → Type 0
ObjectPlace X i = (i < box_count X.sides) × Object X (raster_point X.sides i)

abbrev pub NearPlaces : Picture → ℕ → ℕ → Type 0
NearPlaces X i j = Near (raster_point X.sides i) (raster_point X.sides j)

-- the place of a point of the object
abbrev pub object_place : Picture → Point → Option ℕ
object_place X q = place_if (at X q) (raster_number X.sides q)

-- the place of near neighbour k of the point at a place, where the neighbour is object
abbrev pub object_link : Picture → ℕ → ℕ → Option ℕ
object_link X i k = object_place X (near_point (raster_point X.sides i) k)

-- ---- background points

-- each coordinate one more, by which the framed box becomes a box
abbrev pub raised : Point → Point
raised p = map (λ x. x +ℤ pos 1) p

-- the point lies in the framed box
abbrev pub in_frame : List ℕ → Point → Bool
in_frame sides p = in_box (framed_sides sides) (raised p)

-- the number of a point of the framed box
abbrev pub framed_number : List ℕ → Point → ℕ
framed_number sides p = raster_number (framed_sides sides) (raised p)

abbrev pub BackgroundPlace : Picture → ℕ → Type 0
BackgroundPlace X i = (i < box_count (framed_sides X.sides)) × (at X (framed_point X.sides i) ≡ false)

abbrev pub SidePlaces : Picture → ℕ → ℕ → Type 0
SidePlaces X i j = Side (framed_point X.sides i) (framed_point X.sides j)

-- the place of a point of the background in the framed box
abbrev pub background_place : Picture → Point → Option ℕ
background_place X q = place_if (in_frame X.sides q && not (at X q)) (framed_number X.sides q)

-- the place of side neighbour k of the point at a place, where the neighbour is background in the framed box
abbrev pub background_link : Picture → ℕ → ℕ → Option ℕ
background_link X i k = background_place X (side_point (framed_point X.sides i) k)
