-- What the program's own types mean: its points, steps, runs, borders and bounds as those of the definitions.
-- A point is the list of its coordinates.
use Rattle.std.specs.Prelude.{ℕ, ◌+◌, ◌*◌, ◌^◌, List, [], ◌∷◌, map}
use Rattle.shape_space.specs.declared.point.P2.{P2}
use Rattle.shape_terms.specs.Points.{Point}
use Rattle.shape_terms.specs.Contours.{Crack}
use Rattle.report_terms.specs.Lines as Terms
use Rattle.shape_report.specs.declared.line.Line.{Line}
use Rattle.shape_report.specs.LineOf.{line_of}
use Rattle.measure_terms.specs.Runs as Runs
use Rattle.measure_terms.specs.Lengths as Lengths
use Rattle.measure_terms.specs.Borders as Borders
use Rattle.measure_terms.specs.Objects as Objects
use Rattle.bordering.specs.declared.step.Step.{Step}
use Rattle.bordering.specs.declared.run.Run.{Run}
use Rattle.bordering.specs.declared.border.Start.{Start}
use Rattle.bordering.specs.declared.border.Border.{Border}
use Rattle.bordering.specs.declared.objects.Bounds.{Bounds}
use Rattle.bordering.specs.declared.total.Total.{Total}

-- the coordinates of a point of the plane
abbrev pub flat : P2 → Point
flat p = p.x ∷ p.y ∷ []

abbrev pub flats : List P2 → List Point
flats ps = map flat ps

-- a line of a report of a flat picture
abbrev pub flat_line : Line P2 → Terms.Line
flat_line l = line_of flat l

abbrev pub step_told : Step → Lengths.Step
step_told s = record { x = s.x; y = s.y }

abbrev pub run_told : Run → Runs.Run
run_told r = record { first = r.first; last = r.last; a = r.a; b = r.b }

abbrev pub runs_told : List Run → List Runs.Run
runs_told rs = map run_told rs

abbrev pub crack_told : Start → Crack
crack_told s = record { pixel = flat s.point; side = s.side }

abbrev pub border_told : Border → Borders.Border
border_told b = record { start = crack_told b.start; length = b.length }

abbrev pub all_borders : List Border → List Borders.Border
all_borders bs = map border_told bs

-- a sum of lengths, in units
abbrev pub total_told : Total → ℕ
total_told t = t.pixels * 10 ^ 12 + t.units

abbrev pub bounds_told : Bounds → Objects.Bounds
bounds_told b = record { border = total_told b.border; hole_border = total_told b.hole_border; holes = b.holes }

abbrev pub all_bounds : List Bounds → List Objects.Bounds
all_bounds bs = map bounds_told bs
