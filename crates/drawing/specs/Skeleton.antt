-- The skeleton of a report: the object points that no `del` line takes away.
-- The order of events does not matter here.
use Rattle.std.specs.Prelude.{ℕ, not, List, map, filter}
use Rattle.shape_terms.specs.Points.{Point}
use Rattle.report_terms.specs.Lines.{Line}
use Rattle.report_lines.specs.Said.{is_deleted}
use Rattle.drawing.specs.Object.{Pixel, pixels}

-- the points that are left, in the order of their `near` lines
abbrev pub left : List ℕ → List Line → List Point
left sides lines = filter (λ p. not (is_deleted lines p)) (map (λ (x : Pixel). x.point) (pixels sides lines))
