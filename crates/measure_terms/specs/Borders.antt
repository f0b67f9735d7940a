-- The borders that a report tells, one for each contour: where it begins, and its length.
-- Lines are taken as they stand.
use Rattle.std.specs.Prelude.{ℕ, List, [], ◌∷◌, filter_map, Option, Some, None}
use Rattle.std.specs.Option.{option_map}
use Rattle.shape_terms.specs.Contours.{Crack}
use Rattle.report_terms.specs.Lines.{Line}
use Rattle.report_terms.specs.ContourLines.{contour_groups, point_of}
use Rattle.measure_terms.specs.Runs.{run_of}
use Rattle.measure_terms.specs.Lengths.{contour_length}

-- a border: the first crack of its contour, and the length of the line through its points, in units
pub record Border : Type 0 where
  pub start : Crack
  pub length : ℕ

-- the crack that a `contour` line gives
abbrev pub crack_of : Line → Option Crack
crack_of (Line.Contour p side n m) = Some (record { pixel = p; side = side })
crack_of _ = None

-- the crack that the first line of a group gives
abbrev pub first_crack : List Line → Option Crack
first_crack [] = None
first_crack (l ∷ lines) = crack_of l

-- the length of the contour with these lines
abbrev pub length_of : List Line → ℕ
length_of group = contour_length (filter_map point_of group) (filter_map run_of group)

-- the border that the lines of a contour tell
abbrev pub border_of : List Line → Option Border
border_of group = option_map (λ c. record { start = c; length = length_of group }) (first_crack group)

-- the borders of all contours
abbrev pub borders : List Line → List Border
borders lines = filter_map border_of (contour_groups lines)
