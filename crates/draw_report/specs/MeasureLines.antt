-- The lines of measures over a drawing: of each object the two axes of its ellipse, its least and its greatest Feret diameter, each with its number as the
-- table spells it.
-- A unit of the layer is half a thousandth of a pixel. Another look is a change of texts here and of the same texts in `measure_lines`.
use Rattle.std.specs.Prelude.{ℕ, ◌+◌, ◌*◌, ◌/◌, max, ℤ, pos, neg_ℤ, nat_abs, int_lt, Bool, not, if◌then◌else◌, List, ◌++◌, codes, slice_index}
use Rattle.std.specs.List.{flat_map, range_with_len}
use Rattle.std.specs.Fmt.{decimal, signed_decimal}
use Rattle.shape_terms.specs.Points.{Point, coordinate}
use Rattle.measure_terms.specs.Rounding.{root}
use Rattle.measure_terms.specs.Moments.{Moments}
use Rattle.measure_terms.specs.Ellipse.{Ellipse}
use Rattle.measure_terms.specs.Feret.{Feret}
use Rattle.measure_terms.specs.HullSizes.{HullSize}
use Rattle.measuring.specs.Turns.{Turn}
use Rattle.drawing.specs.Svg.{scale}
use Rattle.draw_report.specs.Circles.{thousandths}

-- ---- what is drawn of an object

-- an ellipse, and how far it is turned
pub record Axes : Type 0 where
  pub ellipse : Ellipse
  pub turn : Turn

pub record Shown : Type 0 where
  pub moments : Moments
  pub axes : Axes
  pub feret : Feret
  pub hull : HullSize

-- ---- numbers

-- a quotient, rounded to nearest and a half up
abbrev pub nearest : (a n : ℕ) → ℕ
nearest a n = (2 * a + n) / (2 * max n 1)

-- where the middle of so many points lies along an axis, off the sum of their coordinates
abbrev pub middle : (n sum : ℕ) → ℕ
middle n sum = nearest (2000 * sum) n

-- how far half of the least width reaches across a step of its side
abbrev pub half_width : HullSize → (step : ℤ) → ℕ
half_width z step = nearest (1000 * (z.across * nat_abs step)) z.length

-- whether the least width goes down to the right, which is across its side
abbrev pub goes_down : HullSize → Bool
goes_down z = if int_lt z.dx (pos 0) then not (int_lt z.dy (pos 0)) else int_lt z.dy (pos 0)

-- ---- pieces

-- a number behind a text
abbrev pub after : List ℕ → ℕ → List ℕ
after text n = text ++ decimal n

-- two coordinates
abbrev pub vector_text : ℤ → ℤ → List ℕ
vector_text x y = signed_decimal x ++ (codes " " ++ signed_decimal y)

-- the middle of an object
abbrev pub middle_text : Moments → List ℕ
middle_text m = decimal (middle m.count m.x) ++ after (codes " ") (middle m.count m.y)

-- the name of a measure
abbrev pub name_text : List ℕ → List ℕ
name_text name = codes ", " ++ (name ++ codes " ")

-- the end of a line, with its title: the number of its object, the name of the measure, and the length in thousandths
abbrev pub title_text : (name : List ℕ) → (k length : ℕ) → List ℕ
title_text name k length = codes "\"><title>object " ++ (decimal k ++ (name_text name ++ (thousandths length ++ codes "</title></line>\n")))

-- ---- the axes of the ellipse, in a system of their own about the middle

abbrev pub turn_text : Turn → List ℕ
turn_text t = vector_text (pos t.cosine) t.sine ++ (codes " " ++ vector_text (neg_ℤ t.sine) (pos t.cosine))

abbrev pub axes_opening : Turn → Moments → List ℕ
axes_opening t m = codes "<g transform=\"matrix(" ++ (turn_text t ++ (codes " " ++ (middle_text m ++ codes ") scale(.00002)\">\n")))

abbrev pub minor_line : (k minor : ℕ) → List ℕ
minor_line k minor = after (codes "<line class=\"minor\" stroke=\"#56B4E9\" y1=\"-") minor
    ++ (after (codes "\" y2=\"") minor ++ title_text (codes "minor") k minor)

abbrev pub major_line : (k major : ℕ) → List ℕ
major_line k major = after (codes "<line class=\"major\" stroke=\"#009E73\" x1=\"-") major
    ++ (after (codes "\" x2=\"") major ++ title_text (codes "major") k major)

abbrev pub axes_text : ℕ → Axes → Moments → List ℕ
axes_text k a m = axes_opening a.turn m ++ (minor_line k a.ellipse.minor ++ (major_line k a.ellipse.major ++ codes "</g>\n"))

-- ---- the least Feret diameter, with its middle at that of the object

-- the coordinates y of its ends, which lie left and right
abbrev pub left_end : Bool → List ℕ
left_end down = if down then codes "\" y1=\"-" else codes "\" y1=\""

abbrev pub right_end : Bool → List ℕ
right_end down = if down then codes "\" y2=\"" else codes "\" y2=\"-"

abbrev pub ends_text : Bool → (u v : ℕ) → List ℕ
ends_text down u v = after (codes ")\" x1=\"-") u ++ (after (left_end down) v ++ (after (codes "\" x2=\"") u ++ after (right_end down) v))

abbrev pub width_opening : Moments → List ℕ
width_opening m = codes "<line class=\"min_feret\" stroke=\"#882255\" transform=\"translate(" ++ middle_text m

abbrev pub width_line : ℕ → HullSize → Moments → List ℕ
width_line k z m = width_opening m ++ (ends_text (goes_down z) (half_width z z.dy) (half_width z z.dx) ++ title_text (codes "min_feret") k z.min_feret)

-- ---- the greatest Feret diameter, between its two points

abbrev pub place_at : Point → ℕ → ℕ
place_at p axis = 2000 * nat_abs (coordinate p axis)

abbrev pub from_text : Point → List ℕ
from_text p = after (codes "<line class=\"feret\" stroke=\"#CC79A7\" x1=\"") (place_at p 0) ++ after (codes "\" y1=\"") (place_at p 1)

abbrev pub to_text : Point → List ℕ
to_text p = after (codes "\" x2=\"") (place_at p 0) ++ after (codes "\" y2=\"") (place_at p 1)

abbrev pub feret_line : ℕ → Feret → List ℕ
feret_line k f = from_text f.from ++ (to_text f.to ++ title_text (codes "feret") k (root f.square))

-- ---- the layer

-- the lines of the object with a number
abbrev pub object_lines : ℕ → Shown → List ℕ
object_lines k s = axes_text k s.axes s.moments ++ (width_line k s.hull s.moments ++ feret_line k s.feret)

-- the width of a line: two points of the screen
abbrev pub line_size : ℕ → ℕ → ℕ
line_size w h = 4000 / scale w h

abbrev pub opening : ℕ → List ℕ
opening size = codes "<g class=\"measures\" transform=\"scale(.0005)\" stroke-width=\"" ++ (decimal size ++ codes "\">\n")

-- the lines of n objects, each of which is told by its place from 0 on
abbrev pub lines_text : (shown : ℕ → Shown) → (n : ℕ) → List ℕ
lines_text shown n = flat_map (λ k. object_lines (k + 1) (shown k)) (range_with_len 0 n)

-- the layer on a picture with these sides
abbrev pub measure_layer : List ℕ → (shown : ℕ → Shown) → (n : ℕ) → List ℕ
measure_layer sides shown n = opening (line_size (slice_index sides 0) (slice_index sides 1)) ++ (lines_text shown n ++ codes "</g>\n")
