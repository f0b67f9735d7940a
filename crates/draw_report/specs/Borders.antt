-- Stretches of borders as strokes: those of the k-th border along the k-th of some paths.
-- What paths these are, each kind of report says in `Layers`.
use Rattle.std.specs.Prelude.{true, List, [], ◌∷◌, ◌++◌}
use Rattle.shape_terms.specs.Points.{Point}
use Rattle.shape_terms.specs.Covers.{Stretch}
use Rattle.drawing.specs.Outlines.{Stroke, strokes_along}
use Rattle.draw_report.specs.Parts.{Mark}

-- the stretches before the next border begins
abbrev pub leading : List Mark → List Stretch
leading [] = []
leading (Mark.Along s ∷ marks) = s ∷ leading marks
leading (Mark.Border ∷ marks) = []
leading (Mark.Ball p n ∷ marks) = leading marks

-- the stretches of each border
abbrev pub borders : List Mark → List (List Stretch)
borders [] = []
borders (Mark.Border ∷ marks) = leading marks ∷ borders marks
borders (Mark.Along s ∷ marks) = borders marks
borders (Mark.Ball p n ∷ marks) = borders marks

-- the strokes of the stretches of each border along its path; one without a path has none
abbrev pub strokes_over : List (List Point) → List (List Stretch) → List Stroke
strokes_over (path ∷ paths) (stretches ∷ more) = strokes_along path true stretches ++ strokes_over paths more
strokes_over _ _ = []
