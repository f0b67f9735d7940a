-- How far marks were gone through: strokes that are still to come.
-- That these are all of `strokes_over` is a law.
use Rattle.std.specs.Prelude.{ℕ, zero, suc, Bool, true, not, List, [], ◌∷◌, ◌++◌, slice_index_or}
use Rattle.std.specs.Option.{option_to_list}
use Rattle.shape_terms.specs.Points.{Point}
use Rattle.drawing.specs.Outlines.{Stroke, stroke_of}
use Rattle.draw_report.specs.Parts.{Mark}

-- the path of the last of so many borders, and no point where there is none
abbrev pub path_before : List (List Point) → ℕ → List Point
path_before paths zero = []
path_before paths (suc n) = slice_index_or paths n []

-- the strokes of the marks, where so many borders were begun, and the next stretch of the last one is even or not
abbrev pub strokes_from : List (List Point) → ℕ → Bool → List Mark → List Stroke
strokes_from paths n even [] = []
strokes_from paths n even (Mark.Border ∷ marks) = strokes_from paths (suc n) true marks
strokes_from paths n even (Mark.Along s ∷ marks) = option_to_list (stroke_of (path_before paths n) even s) ++ strokes_from paths n (not even) marks
strokes_from paths n even (Mark.Ball p r ∷ marks) = strokes_from paths n even marks
