-- The drawing of a report: an SVG, layer upon layer.
-- The centre of the pixel (x, y) is the point (x, y) of the SVG. Another look is a change of texts here and of the same texts in `layers`.
use Rattle.std.specs.Prelude.{ℕ, ◌+◌, ◌*◌, ◌/◌, max, Bool, true, false, not, if◌then◌else◌, List, ◌++◌, codes, filter, flat_map, slice_index}
use Rattle.std.specs.List.{range_with_len}
use Rattle.std.specs.Fmt.{decimal, signed_decimal}
use Rattle.shape_terms.specs.Points.{Point, coordinate}
use Rattle.report_terms.specs.Lines.{Line}
use Rattle.report_lines.specs.Said.{given_sides}
use Rattle.drawing.specs.Runs.{Run, runs}
use Rattle.drawing.specs.Object.{Pixel, pixels, points_at}
use Rattle.drawing.specs.Outlines.{Stroke, strokes}
use Rattle.drawing.specs.Skeleton.{left}

-- ---- pieces

-- a point: x and y
abbrev pub place_text : Point → List ℕ
place_text p = signed_decimal (coordinate p 0) ++ (codes " " ++ signed_decimal (coordinate p 1))

-- a run: a line from its first point, as long as it has points
abbrev pub run_text : Run → List ℕ
run_text r = codes "M" ++ (place_text r.first ++ (codes "h" ++ decimal r.count))

-- a stroke: a line from the one end to the other
abbrev pub stroke_text : Stroke → List ℕ
stroke_text s = codes "M" ++ (place_text s.from ++ (codes "L" ++ place_text s.to))

-- the two ends of a stroke, each a run of one point
abbrev pub ends_text : Stroke → List ℕ
ends_text s = run_text (record { first = s.from; count = 1 }) ++ run_text (record { first = s.to; count = 1 })

abbrev pub runs_text : List Point → List ℕ
runs_text ps = flat_map run_text (runs ps)

-- ---- layers

-- a path behind the text that opens it
abbrev pub path : (opening pieces : List ℕ) → List ℕ
path opening pieces = opening ++ (pieces ++ codes "\"/>\n")

-- the pixels of a depth: the deeper, the darker
abbrev pub depth_opening : ℕ → List ℕ
depth_opening d = codes "<path stroke-opacity=\"." ++ (decimal (d + 2) ++ codes "\" d=\"")

abbrev pub depth_path : List Pixel → ℕ → List ℕ
depth_path xs d = path (depth_opening d) (runs_text (points_at d xs))

-- the object, depth by depth; each run is as high as a pixel, and begins half a pixel left of its first centre
abbrev pub object_layer : List Pixel → List ℕ
object_layer xs = codes "<g transform=\"translate(-.5)\" stroke=\"#666\" shape-rendering=\"crispEdges\">\n"
    ++ (flat_map (depth_path xs) (range_with_len 0 6) ++ codes "</g>\n")

-- the segments: the even ones blue, the others orange, and their ends on top as small squares
abbrev pub stroke_opening : Bool → List ℕ
stroke_opening true = codes "<path stroke=\"#0072B2\" stroke-width=\".25\" d=\""
stroke_opening false = codes "<path stroke=\"#E69F00\" stroke-width=\".25\" d=\""

-- the strokes that are even, or those that are not
abbrev pub of_parity : Bool → List Stroke → List Stroke
of_parity even ss = filter (λ s. if even then s.even else not s.even) ss

abbrev pub stroke_path : List Stroke → Bool → List ℕ
stroke_path ss even = path (stroke_opening even) (flat_map stroke_text (of_parity even ss))

abbrev pub ends_path : List Stroke → List ℕ
ends_path ss = path (codes "<path transform=\"translate(-.2)\" stroke=\"#D55E00\" stroke-width=\".4\" stroke-dasharray=\".4 .6\" d=\"") (flat_map ends_text ss)

abbrev pub contour_layer : List Stroke → List ℕ
contour_layer ss = stroke_path ss true ++ (stroke_path ss false ++ ends_path ss)

-- the points left, each a square in the middle of its pixel
abbrev pub skeleton_layer : List Point → List ℕ
skeleton_layer ps = path (codes "<path transform=\"translate(-.25)\" stroke=\"#000\" stroke-width=\".5\" stroke-dasharray=\".5\" d=\"") (runs_text ps)

-- ---- the whole

-- so many points of a screen a pixel takes, so that a small picture is shown large
abbrev pub scale : ℕ → ℕ → ℕ
scale w h = max 1 (1024 / max w h)

-- the sides of the drawing on a screen
abbrev pub size_text : ℕ → ℕ → List ℕ
size_text w h = codes "<svg xmlns=\"http://www.w3.org/2000/svg\" width=\"" ++ (decimal (w * scale w h) ++ (codes "\" height=\"" ++ decimal (h * scale w h)))

-- the part of the plane that it shows
abbrev pub view_text : ℕ → ℕ → List ℕ
view_text w h = codes "\" viewBox=\"-.5 -.5 " ++ (decimal w ++ (codes " " ++ decimal h))

-- the front of the drawing of a picture with these sides
abbrev pub head : ℕ → ℕ → List ℕ
head w h = size_text w h
    ++ (view_text w h ++ codes
    "\" fill=\"none\">\n<title>Drawn from a report, which `shape check` can check</title>\n<rect x=\"-.5\" y=\"-.5\" width=\"100%\" height=\"100%\" fill=\"#fff\"/>\n")

-- all layers: the object, on it the contours, and on top the skeleton
abbrev pub layers : List ℕ → List Pixel → List Stroke → List Point → List ℕ
layers sides xs ss ps = head (slice_index sides 0) (slice_index sides 1) ++ (object_layer xs ++ (contour_layer ss ++ skeleton_layer ps))

-- the layers of these lines in a box with these sides
abbrev pub drawn : List ℕ → List Line → List ℕ
drawn sides lines = layers sides (pixels sides lines) (strokes sides lines) (left sides lines)

-- the layers of a report with these lines
abbrev pub report_layers : List Line → List ℕ
report_layers lines = drawn (given_sides lines) lines

-- the drawing of a report with these lines
abbrev pub drawing : List Line → List ℕ
drawing lines = report_layers lines ++ codes "</svg>\n"

-- a drawing of a flat picture that is written has so many bytes at most, but for that of its contours alone
abbrev pub most_drawing : ℕ
most_drawing = 50000000

-- ---- the contours alone

-- the contours of these lines in a box with these sides, without the object and the skeleton
abbrev pub drawn_contours : List ℕ → List Line → List ℕ
drawn_contours sides lines = head (slice_index sides 0) (slice_index sides 1) ++ (contour_layer (strokes sides lines) ++ codes "</svg>\n")

-- the drawing of the contours of a report with these lines
abbrev pub contour_drawing : List Line → List ℕ
contour_drawing lines = drawn_contours (given_sides lines) lines
