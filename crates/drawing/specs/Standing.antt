-- What the program keeps of the lines so far.
-- Each part stands for the same lines; which texts these are lines of is told in `report_lines`.
use Rattle.std.specs.Prelude.{◌≡◌, ℕ, Bool, false, IsTrue, if◌then◌else◌, List, [], ◌∷◌, ◌++◌, filter, filter_map, flat_map}
use Rattle.shape_terms.specs.Points.{Point, in_box, sides_of}
use Rattle.shape_terms.specs.Pictures.{Picture, IsPicture, at}
use Rattle.report_terms.specs.Lines.{Line}
use Rattle.report_terms.specs.ContourFacts.{stretches_of}
use Rattle.report_terms.specs.ContourLines.{contour_groups, point_of, segment_of}
use Rattle.report_lines.specs.Said.{given_sides}
use Rattle.drawing.specs.Object.{pixels}
use Rattle.drawing.specs.Outlines.{contour_strokes, is_inside, Kept}
use Rattle.report_lines.specs.Said.{is_deleted}
use Rattle.drawing.specs.Seen.{flat, all_pixels}
use Rattle.drawing.specs.declared.sketch.FlatSketch.{FlatSketch}
use Rattle.drawing.specs.declared.contour_sketch.ContourSketch.{ContourSketch}

-- the groups of contours begun: none, or some closed ones and the last
abbrev pub groups_with : Bool → List (List Line) → List Line → List (List Line)
groups_with begun closed last = if begun then closed ++ last ∷ [] else []

-- the strokes of the closed contours are kept, and the points and stretches of the last
pub record HasOutlines (sides : List ℕ) (lines : List Line) (k : Kept) : Type 0 where
  pub closed : List (List Line)
  pub last : List Line
  pub groups : contour_groups lines ≡ groups_with k.begun closed last
  pub strokes : k.strokes ≡ filter (is_inside sides) (flat_map contour_strokes closed)
  pub points : k.points ≡ filter_map point_of last
  pub stretches : k.stretches ≡ stretches_of (filter_map segment_of last)
  pub none : k.begun ≡ false → (closed ≡ []) × (last ≡ [])

-- the picture of the points of the box that the lines delete
pub record HasDeleted (sides : List ℕ) (lines : List Line) (X : Picture) : Type 0 where
  pub picture : IsPicture 2 X
  pub box : X.sides ≡ sides
  pub value : (p : Point) → IsTrue (in_box sides p) → at X p ≡ is_deleted lines p

-- a sketch of the lines, the first of which gives its sides
pub record IsSketchOf (lines : List Line) (s : FlatSketch) : Type 0 where
  pub given : given_sides lines ≡ sides_of (flat s.sides.lengths)
  pub pixels : all_pixels s.pixels.items ≡ pixels (sides_of (flat s.sides.lengths)) lines
  pub outlines : HasOutlines (sides_of (flat s.sides.lengths)) lines s.outlines
  pub deleted : HasDeleted (sides_of (flat s.sides.lengths)) lines s.deleted

-- a sketch of the contours of the lines, the first of which gives its sides
pub record IsContourSketchOf (lines : List Line) (s : ContourSketch) : Type 0 where
  pub given : given_sides lines ≡ sides_of (flat s.sides.lengths)
  pub outlines : HasOutlines (sides_of (flat s.sides.lengths)) lines s.outlines
