-- The drawing of a report of a volume: an SVG of the sheet, layer upon layer.
-- The centre of the place (x, y) of the sheet is the point (x, y) of the SVG. Another look is a change of texts here and of the same texts in `sheet_layers`.
use Rattle.std.specs.Prelude.{ℕ, ◌*◌, ◌-◌, List, [], ◌∷◌, ◌++◌, codes, slice_index_or}
use Rattle.std.specs.List.{range_with_len, flat_map}
use Rattle.std.specs.Fmt.{decimal}
use Rattle.report_terms.specs.Lines.{Line}
use Rattle.report_lines.specs.Said.{given_sides}
use Rattle.drawing.specs.Svg.{head, path, runs_text}
use Rattle.drawing.specs.declared.layout.Triple.{Triple}
use Rattle.drawing.specs.declared.layout.Panel.{Panel}
use Rattle.drawing.specs.declared.layout.Panel.TheVariants.{Left, Right, Top, Bottom, Front, Back, AlongX, AlongY, AlongZ}
use Rattle.drawing.specs.Layout.{extent, left, top, wide, high, sheet_width, sheet_height, sheet_sides}
use Rattle.drawing.specs.Canvas.{Canvas, canvas_of}
use Rattle.drawing.specs.Inks.{points_with}
use Rattle.drawing.specs.Dabs.{dabs_in}

-- ---- the ground

-- the corner in which a part begins
abbrev pub corner_text : Triple → Panel → List ℕ
corner_text s k = codes "M" ++ (decimal (left s k) ++ (codes " " ++ decimal (top s k)))

-- its upper and right sides
abbrev pub edges_text : Triple → Panel → List ℕ
edges_text s k = codes "h" ++ (decimal (wide s k) ++ (codes "v" ++ decimal (high s k)))

-- the rectangle of a part
abbrev pub part_text : Triple → Panel → List ℕ
part_text s k = corner_text s k ++ (edges_text s k ++ (codes "h-" ++ (decimal (wide s k) ++ codes "z")))

-- the parts of the sheet
abbrev pub parts : List Panel
parts = Left ∷ Right ∷ Top ∷ Bottom ∷ Front ∷ Back ∷ AlongX ∷ AlongY ∷ AlongZ ∷ []

-- the ground of all parts, from half a pixel left of and above their first centres
abbrev pub ground : Triple → List ℕ
ground s = path (codes "<path transform=\"translate(-.5 -.5)\" fill=\"#eee\" d=\"") (flat_map (part_text s) parts)

-- ---- inks

-- the places that show an ink, as runs
abbrev pub ink_text : Canvas → ℕ → ℕ → List ℕ
ink_text C colour shade = runs_text (points_with C colour shade)

-- a colour in one of four shades: the deeper, the paler
abbrev pub shade_opening : ℕ → List ℕ
shade_opening shade = codes "<path stroke-opacity=\"." ++ (decimal (9 - 2 * shade) ++ codes "\" d=\"")

abbrev pub shade_path : Canvas → ℕ → ℕ → List ℕ
shade_path C colour shade = path (shade_opening shade) (ink_text C colour shade)

-- the six colours of patches: orange, sky blue, green, vermilion, blue and purple
abbrev pub colour_opening : ℕ → List ℕ
colour_opening colour = slice_index_or (
    codes "<g stroke=\"#E69F00\">\n"
    ∷ codes "<g stroke=\"#56B4E9\">\n"
    ∷ codes "<g stroke=\"#009E73\">\n"
    ∷ codes "<g stroke=\"#D55E00\">\n"
    ∷ codes "<g stroke=\"#0072B2\">\n"
    ∷ codes "<g stroke=\"#CC79A7\">\n"
    ∷ []
    ) colour []

abbrev pub colour_layer : Canvas → ℕ → List ℕ
colour_layer C colour = colour_opening colour ++ (flat_map (shade_path C colour) (range_with_len 0 4) ++ codes "</g>\n")

-- the faces, colour by colour
abbrev pub faces : Canvas → List ℕ
faces C = flat_map (colour_layer C) (range_with_len 0 6)

-- the views: the object, and on it the points that are left
abbrev pub object_layer : Canvas → List ℕ
object_layer C = path (codes "<path stroke=\"#bbb\" d=\"") (ink_text C 6 0)

abbrev pub skeleton_layer : Canvas → List ℕ
skeleton_layer C = path (codes "<path stroke=\"#000\" d=\"") (ink_text C 7 0)

-- each run is as high as a pixel, and begins half a pixel left of its first centre
abbrev pub inks : Canvas → List ℕ
inks C = codes "<g transform=\"translate(-.5)\" shape-rendering=\"crispEdges\">\n" ++ (faces C ++ (object_layer C ++ (skeleton_layer C ++ codes "</g>\n")))

-- ---- the whole

-- the sheet of a box with these sides, which shows this
abbrev pub sheet_text : Triple → Canvas → List ℕ
sheet_text s C = head (sheet_width s) (sheet_height s) ++ (ground s ++ (inks C ++ codes "</svg>\n"))

-- the sheet of these lines in a box with these sides
abbrev pub sheet_in : List ℕ → List Line → List ℕ
sheet_in sides lines = sheet_text (extent sides) (canvas_of (sheet_sides (extent sides)) (dabs_in sides lines))

-- the drawing of a report with these lines
abbrev pub sheet : List Line → List ℕ
sheet lines = sheet_in (given_sides lines) lines
