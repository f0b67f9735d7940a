-- The object points of a picture as a list.
-- Laws over pictures alone.
use Rattle.std.proofs.Common.{◌∙◌, arith}
use Rattle.std.specs.Prelude.{Contains}
use Rattle.shape_terms.specs.Points.{Point, box_points, raster_number}
use Rattle.shape_terms.specs.Pictures.{Picture, at, object_points}
use Rattle.shape_terms.specs.Parts.{Object}
use Rattle.shape_terms.proofs.Boxes.{raster_below, raster_point-raster_number}
use Rattle.shape_terms.proofs.BoxLists.{length-box_points, get_or-box_points}
use Rattle.shape_terms.proofs.ObjectPlaces.{object_in_box}
use Rattle.shape_terms.proofs.Members.{Contains-filter}

-- each object point is one of the list
pub object_listed : (X : Picture) (q : Point) → Object X q → Contains (object_points X) q
object_listed X q o =
    let b = object_in_box X q o in
    let l = raster_below X.sides q b in
    Contains-filter (at X) (box_points X.sides) q (
      raster_number X.sides q,
      omega (arith, length-box_points X.sides),
      get_or-box_points X.sides
          (raster_number X.sides q) q l ∙ raster_point-raster_number X.sides q b,
    ) o
