-- Binary pictures of any number of axes, and the nearest background points of their points.
-- A picture has a value at each point of the whole space; outside its box it is background.
use Rattle.std.specs.Prelude.{◌≡◌, ℕ, ◌≤◌, Bool, false, ◌&&◌, List, length, slice_index_or, slice_set, replicate, filter, drop}
use Rattle.shape_terms.specs.Points.{Point, IsPoint, in_box, raster_number, box_points, box_count, squared_distance}

-- one side for each axis, and one truth value for each point of the box, in raster order
pub record Picture : Type 0 where
  pub sides : List ℕ
  pub values : List Bool

-- a picture of d axes
pub record IsPicture (d : ℕ) (X : Picture) : Type 0 where
  pub axes : length X.sides ≡ d
  pub filled : length X.values ≡ box_count X.sides

-- the value of the picture at a point: false outside the box
abbrev pub at : Picture → Point → Bool
at X p = in_box X.sides p && slice_index_or X.values (raster_number X.sides p) false

-- the object points in raster order
abbrev pub object_points : Picture → List Point
object_points X = filter (at X) (box_points X.sides)

-- a point of the picture's space that is not object
pub record IsBackground (X : Picture) (p : Point) : Type 0 where
  pub point : IsPoint (length X.sides) p
  pub value : at X p ≡ false

-- the picture without an object point
abbrev pub blank : List ℕ → Picture
blank sides = record { sides = sides; values = replicate (box_count sides) false }

-- the picture with the value b at the point p of its box
abbrev pub with_value : Picture → Point → Bool → Picture
with_value X p b = record { sides = X.sides; values = slice_set X.values (raster_number X.sides p) b }

-- q is background, s is the squared distance of p and q, and no background point of the whole space is nearer to p
pub record Least (X : Picture) (p q : Point) (s : ℕ) : Type 0 where
  pub background : IsBackground X q
  pub distance : s ≡ squared_distance p q
  pub least : (r : Point) → IsBackground X r → s ≤ squared_distance p r

-- the object points with raster numbers from i on, in raster order
abbrev pub objects_from : Picture → ℕ → List Point
objects_from X i = filter (at X) (drop i (box_points X.sides))
