-- The drawing of a further report over the object of an analysis: an SVG, layer upon layer.
-- The front and the object stand in `drawing`; a further kind is one more clause of `ArePaths` and of `marks_layer`.
use Rattle.std.specs.Prelude.{◌≡◌, ℕ, List, [], ◌++◌, codes, filter, slice_index}
use Rattle.shape_terms.specs.Points.{Point}
use Rattle.shape_terms.specs.Pictures.{Picture}
use Rattle.report_terms.specs.Lines.{Line}
use Rattle.report_lines.specs.Said.{given_sides, said}
use Rattle.drawing.specs.Object.{Pixel, pixels}
use Rattle.drawing.specs.Outlines.{Stroke, is_inside}
use Rattle.drawing.specs.Svg.{head, object_layer, contour_layer}
use Rattle.draw_report.specs.Parts.{Mark}
use Rattle.draw_report.specs.Contours.{contours_of}
use Rattle.draw_report.specs.Corners.{AreCornerPaths}
use Rattle.draw_report.specs.Borders.{borders, strokes_over}
use Rattle.draw_report.specs.Circles.{balls_in, balls_layer}
use Rattle.draw_report.specs.declared.kind.Kind.{Kind}
use Rattle.draw_report.specs.declared.kind.Kind.TheVariants as kind

-- the paths that the stretches of each kind run along, where an analysis has these lines: the contours that it gives, or the corner paths of the object that it
-- tells
abbrev pub ArePaths : Kind → List Line → List (List Point) → Type 0
ArePaths kind.Balls lines paths = paths ≡ []
ArePaths kind.Pieces lines paths = paths ≡ contours_of lines
ArePaths kind.Edges lines paths = AreCornerPaths (said lines).object paths

-- strokes from corner to corner: a corner lies half a pixel up and left of the centre of the pixel with its coordinates
abbrev pub corner_layer : List Stroke → List ℕ
corner_layer ss = codes "<g transform=\"translate(-.5 -.5)\">\n" ++ (contour_layer ss ++ codes "</g>\n")

-- the marks of each kind: balls as circles, and stretches as strokes, those of pieces where both ends are in the box
abbrev pub marks_layer : Kind → List ℕ → List (List Point) → List Mark → List ℕ
marks_layer kind.Balls sides paths marks = balls_layer (balls_in sides marks)
marks_layer kind.Pieces sides paths marks = contour_layer (filter (is_inside sides) (strokes_over paths (borders marks)))
marks_layer kind.Edges sides paths marks = corner_layer (strokes_over paths (borders marks))

-- all layers: the object, and on it the marks
abbrev pub layers : Kind → List ℕ → List Pixel → List (List Point) → List Mark → List ℕ
layers k sides xs paths marks = head (slice_index sides 0) (slice_index sides 1) ++ (object_layer xs ++ (marks_layer k sides paths marks ++ codes "</svg>\n"))

-- the marks of a further report over the object of an analysis with these lines
abbrev pub overlay : Kind → List Line → List (List Point) → List Mark → List ℕ
overlay k lines paths marks = layers k (given_sides lines) (pixels (given_sides lines) lines) paths marks

-- the drawing of these marks over these lines, along the paths of the kind
pub record IsOverlay (k : Kind) (lines : List Line) (marks : List Mark) (svg : List ℕ) : Type 0 where
  pub paths : List (List Point)
  pub are : ArePaths k lines paths
  pub drawn : svg ≡ overlay k lines paths marks

-- the arcs along the corner paths of a picture were put behind a text
pub record EdgesPut (X : Picture) (marks : List Mark) (old new : List ℕ) : Type 0 where
  pub paths : List (List Point)
  pub are : AreCornerPaths X paths
  pub put : new ≡ old ++ corner_layer (strokes_over paths (borders marks))

-- the marks of this kind over an analysis with these lines were put behind a text
pub record MarksPut (k : Kind) (lines : List Line) (marks : List Mark) (old new : List ℕ) : Type 0 where
  pub paths : List (List Point)
  pub are : ArePaths k lines paths
  pub put : new ≡ old ++ marks_layer k (given_sides lines) paths marks
