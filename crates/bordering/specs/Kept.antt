-- What is kept of the contours while the lines come: the borders before the last contour, and of that its first crack, points and runs.
-- That the borders of all lines come out is a law.
use Rattle.std.specs.Prelude.{◌≡◌, List, [], ◌∷◌, ◌++◌, filter_map, Option, Some, None, if◌then◌else◌}
use Rattle.std.specs.Option.{option_map, option_to_list, is_some}
use Rattle.shape_terms.specs.Points.{Point}
use Rattle.shape_terms.specs.Contours.{Crack}
use Rattle.report_terms.specs.Lines.{Line}
use Rattle.report_terms.specs.ContourLines.{contour_groups, point_of}
use Rattle.measure_terms.specs.Runs.{Run, run_of}
use Rattle.measure_terms.specs.Lengths.{contour_length}
use Rattle.measure_terms.specs.Borders.{Border, first_crack, border_of}

-- the borders so far, the first crack of the contour that was begun last, and its points and runs
pub record Kept : Type 0 where
  pub borders : List Border
  pub begun : Option Crack
  pub points : List Point
  pub runs : List Run

-- the border of the contour that was begun last
abbrev pub last_border : Kept → Option Border
last_border k = option_map (λ c. record { start = c; length = contour_length k.points k.runs }) k.begun

-- the same where the border of the last contour stands with the others, and none of its points and runs is kept
abbrev pub closed : Kept → Kept
closed k = record { borders = k.borders ++ option_to_list (last_border k); begun = k.begun; points = []; runs = [] }

-- the same where a contour with this first crack was begun behind it
abbrev pub begin_with : Crack → Kept → Kept
begin_with c k = record (closed k) { begun = Some c }

-- the same with one more point of the last contour, where one was begun
abbrev pub with_point : Kept → Point → Kept
with_point k p = if is_some k.begun then record k { points = k.points ++ p ∷ [] } else k

-- the same with one more run of the last contour, where there is one and a contour was begun
abbrev pub with_segment : Kept → Option Run → Kept
with_segment k None = k
with_segment k (Some r) = if is_some k.begun then record k { runs = k.runs ++ r ∷ [] } else k

-- the groups of contours begun: none, or some closed ones and the last
abbrev pub groups_with : Option Crack → List (List Line) → List Line → List (List Line)
groups_with None closed last = []
groups_with (Some c) closed last = closed ++ last ∷ []

-- the borders of the closed contours are kept, and the first crack, the points and the runs of the last
pub record HasBorders (lines : List Line) (k : Kept) : Type 0 where
  pub closed : List (List Line)
  pub last : List Line
  pub groups : contour_groups lines ≡ groups_with k.begun closed last
  pub borders : k.borders ≡ filter_map border_of closed
  pub begun : k.begun ≡ first_crack last
  pub points : k.points ≡ filter_map point_of last
  pub runs : k.runs ≡ filter_map run_of last
  pub none : k.begun ≡ None → (closed ≡ []) × (last ≡ [])
