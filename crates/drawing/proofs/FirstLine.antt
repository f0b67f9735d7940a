-- A sketch of no line is one of a heading, which draws nothing.
-- Laws of lines alone.
use Rattle.std.proofs.Common.{◌≡◌, ℕ, List, [], ◌∷◌, length, ap, arith}
use Rattle.shape_terms.specs.Points.{sides_of}
use Rattle.report_terms.specs.Lines.{Line, Heading}
use Rattle.report_lines.specs.Said.{given_sides}
use Rattle.drawing.specs.Outlines.{Kept}
use Rattle.drawing.specs.Seen.{flat, all_pixels}
use Rattle.drawing.specs.Standing.{HasOutlines, HasDeleted, IsSketchOf, IsContourSketchOf}
use Rattle.drawing.specs.declared.sketch.FlatSketch.{FlatSketch}
use Rattle.drawing.specs.declared.contour_sketch.ContourSketch.{ContourSketch}

-- a heading begins no contour
outlines_begun : {sides : List ℕ} {k : Kept} (h : Heading) → HasOutlines sides [] k → HasOutlines sides (Line.Shape h ∷ []) k
outlines_begun h o = record {
  closed = o.closed;
  last = o.last;
  groups = o.groups;
  strokes = o.strokes;
  points = o.points;
  stretches = o.stretches;
  none = o.none;
}

pub with_heading : (l : Line) (s : FlatSketch) → given_sides (l ∷ []) ≡ sides_of (flat s.sides.lengths) → all_pixels s.pixels.items ≡ []
    → HasOutlines (sides_of (flat s.sides.lengths)) [] s.outlines → HasDeleted (sides_of (flat s.sides.lengths)) [] s.deleted → IsSketchOf (l ∷ []) s
with_heading (Line.Shape h) s given none outlines deleted = record {
  given = given;
  pixels = none;
  outlines = outlines_begun h outlines;
  deleted = record { picture = deleted.picture; box = deleted.box; value = deleted.value };
}
with_heading _ s given none outlines deleted = let e = ap length given in absurd (omega (arith, e))

pub contours_with_heading : (l : Line) (s : ContourSketch) → given_sides (l ∷ []) ≡ sides_of (flat s.sides.lengths)
    → HasOutlines (sides_of (flat s.sides.lengths)) [] s.outlines → IsContourSketchOf (l ∷ []) s
contours_with_heading (Line.Shape h) s given outlines = record {
  given = given;
  outlines = outlines_begun h outlines;
}
contours_with_heading _ s given outlines = let e = ap length given in absurd (omega (arith, e))
