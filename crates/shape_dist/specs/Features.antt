-- The points of features by their numbers in the framed box.
-- What they are nearest to does not matter here.
use Rattle.std.specs.Prelude.{ℕ, List, map}
use Rattle.shape_terms.specs.Points.{Point}
use Rattle.shape_terms.specs.FramedBox.{framed_point}

-- the points of the framed box with these numbers
abbrev pub framed_points : List ℕ → List ℕ → List Point
framed_points sides numbers = map (framed_point sides) numbers
