-- What the program's own types mean: its points, pixels and strokes as those of the definitions.
-- A point is the list of its coordinates.
use Rattle.std.specs.Prelude.{List, [], ◌∷◌, map}
use Rattle.shape_space.specs.declared.point.P2.{P2}
use Rattle.shape_terms.specs.Points.{Point}
use Rattle.drawing.specs.declared.pixels.Pixel.{Pixel}
use Rattle.drawing.specs.declared.outlines.Stroke.{Stroke}
use Rattle.drawing.specs.declared.outlines.Stretch.{Stretch}
use Rattle.shape_terms.specs.Covers as Covers
use Rattle.drawing.specs.Object as Object
use Rattle.drawing.specs.Outlines as Outlines

-- the coordinates of a point of the plane
abbrev pub flat : P2 → Point
flat p = p.x ∷ p.y ∷ []

abbrev pub flats : List P2 → List Point
flats ps = map flat ps

abbrev pub pixel : Pixel → Object.Pixel
pixel x = record { point = flat x.point; depth = x.depth }

abbrev pub all_pixels : List Pixel → List Object.Pixel
all_pixels xs = map pixel xs

abbrev pub stroke : Stroke → Outlines.Stroke
stroke s = record { from = flat s.from; to = flat s.to; even = s.even }

abbrev pub all_strokes : List Stroke → List Outlines.Stroke
all_strokes ss = map stroke ss

abbrev pub stretch : Stretch → Covers.Stretch
stretch s = record { first = s.first; last = s.last }

abbrev pub all_stretches : List Stretch → List Covers.Stretch
all_stretches ss = map stretch ss
