-- Dabs of ink for the lines of a report: each exposed voxel that an `on` line gives, on its face, in the colour of its patch; and each object voxel on the
-- three views.
-- Lines are taken as they stand; what lies outside the box of the heading is not drawn, nor what stands behind no `face` and `patch` line.
use Rattle.std.specs.Prelude.{ℕ, zero, suc, ◌+◌, nat_lt, if◌then◌else◌, List, [], ◌∷◌, ◌++◌, flat_map, Option, Some, None}
use Rattle.std.specs.Option.{option_map, option_map_or, option_and_then, option_to_list}
use Rattle.shape_terms.specs.Points.{Point, box_points}
use Rattle.shape_terms.specs.Pictures.{at}
use Rattle.shape_terms.specs.Patches.{Sense}
use Rattle.report_terms.specs.Lines.{Line}
use Rattle.report_lines.specs.Said.{Said, said_in}
use Rattle.drawing.specs.declared.layout.Triple.{Triple}
use Rattle.drawing.specs.declared.layout.Panel.{Panel}
use Rattle.drawing.specs.declared.layout.Panel.TheVariants.{Left, Right, Top, Bottom, Front, Back, AlongX, AlongY, AlongZ}
use Rattle.drawing.specs.declared.cell.Cell.{Cell}
use Rattle.drawing.specs.declared.pen.Pen.{Pen}
use Rattle.drawing.specs.Layout.{extent, voxel_in, place, depth, quarter}
use Rattle.drawing.specs.Canvas.{Dab}

-- ---- the face and the colour in which the next voxel is drawn

-- the part of the sheet that shows a face
abbrev pub face_panel : ℕ → Sense → Option Panel
face_panel zero Sense.Down = Some Left
face_panel zero Sense.Upward = Some Right
face_panel (suc zero) Sense.Down = Some Top
face_panel (suc zero) Sense.Upward = Some Bottom
face_panel (suc (suc zero)) Sense.Down = Some Front
face_panel (suc (suc zero)) Sense.Upward = Some Back
face_panel _ _ = None

-- the six colours of patches are taken in turn
abbrev pub next_colour : Option ℕ → ℕ
next_colour None = 0
next_colour (Some c) = if nat_lt c 5 then c + 1 else 0

-- before the first line there is neither face nor patch
abbrev pub no_pen : Pen
no_pen = record { panel = None; colour = None }

-- a `face` line begins a face that has no patch yet, and a `patch` line the next patch
abbrev pub pen_after : Pen → Line → Pen
pen_after pen (Line.Face t sense n) = record { panel = face_panel t sense; colour = None }
pen_after pen (Line.Patch k a mu) = record { panel = pen.panel; colour = Some (next_colour pen.colour) }
pen_after pen _ = pen

-- ---- faces

-- a voxel on a part of the sheet, in a colour
abbrev pub face_dab : Triple → Panel → ℕ → Triple → Dab
face_dab s k colour v = record { place = place s k v; cell = record { depth = depth s k v; colour = colour; shade = quarter s k v } }

-- the dab of a point of the face and patch that were begun last
abbrev pub point_dabs : List ℕ → Pen → Point → List Dab
point_dabs sides pen p =
    option_to_list (option_and_then (λ v. option_and_then (λ k. option_map (λ c. face_dab (extent sides) k c v) pen.colour) pen.panel) (voxel_in sides p))

-- the dab of a line
abbrev pub line_dabs : List ℕ → Pen → Line → List Dab
line_dabs sides pen (Line.On p) = point_dabs sides pen p
line_dabs sides pen _ = []

-- the dabs of the lines in turn
abbrev pub dabs_from : List ℕ → Pen → List Line → List Dab
dabs_from sides pen [] = []
dabs_from sides pen (l ∷ lines) = line_dabs sides pen l ++ dabs_from sides (pen_after pen l) lines

-- ---- views

-- the views show the object in a pale grey, and on it, as if nothing lay before them, the points that are left in black
abbrev pub left_cell : Cell
left_cell = record { depth = 0; colour = 7; shade = 0 }

abbrev pub object_cell : Cell
object_cell = record { depth = 1; colour = 6; shade = 0 }

-- what the views show of a point
abbrev pub view_cell : Said → Point → Option Cell
view_cell s p = if at s.left p then Some left_cell else (if at s.object p then Some object_cell else None)

-- the dabs of a voxel in the three views
abbrev pub through : Triple → Triple → Cell → List Dab
through s v c = record { place = place s AlongX v; cell = c } ∷ record { place = place s AlongY v; cell = c } ∷ record { place = place s AlongZ v; cell = c }
    ∷ []

-- the dabs of a point of the box
abbrev pub voxel_dabs : List ℕ → Said → Point → List Dab
voxel_dabs sides s p = option_map_or (λ c. option_map_or (λ v. through (extent sides) v c) (voxel_in sides p) []) (view_cell s p) []

-- the dabs of all points of the box, in raster order
abbrev pub view_dabs : List ℕ → Said → List Dab
view_dabs sides s = flat_map (voxel_dabs sides s) (box_points sides)

-- ---- the whole sheet

-- all dabs for the lines of a report in a box with these sides
abbrev pub dabs_in : List ℕ → List Line → List Dab
dabs_in sides lines = dabs_from sides no_pen lines ++ view_dabs sides (said_in sides lines)
