-- The contours that the lines of an analysis give.
-- Lines are taken as they stand.
use Rattle.std.specs.Prelude.{List, [], ◌∷◌, ◌++◌, map, filter_map}
use Rattle.shape_terms.specs.Points.{Point}
use Rattle.report_terms.specs.Lines.{Line}
use Rattle.report_terms.specs.ContourLines.{contour_groups, point_of}

-- the points of each contour, in the order of the lines
abbrev pub contours_of : List Line → List (List Point)
contours_of lines = map (λ group. filter_map point_of group) (contour_groups lines)

-- the same with one more point of the last contour, where there is one
abbrev pub with_point : List (List Point) → Point → List (List Point)
with_point [] p = []
with_point (c ∷ []) p = (c ++ p ∷ []) ∷ []
with_point (c ∷ d ∷ contours) p = c ∷ with_point (d ∷ contours) p

-- the same after one more line
abbrev pub with_line : List (List Point) → Line → List (List Point)
with_line contours (Line.Contour p side n m) = contours ++ [] ∷ []
with_line contours (Line.At p) = with_point contours p
with_line contours _ = contours
