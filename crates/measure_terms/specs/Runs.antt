-- The segments of a contour as runs of its steps along a line, as the lines of a report give them.
-- Which segments are right does not matter here; lines need not hold, and those beyond the limits count for nothing, so that no number overflows and no run
-- takes long.
use Rattle.std.specs.Prelude.{ℕ, ℤ, ◌+◌, ◌^◌, nat_le, nat_abs, Bool, ◌&&◌, if◌then◌else◌, List, Option, Some, None}
use Rattle.shape_terms.specs.Limits.{most_flat}
use Rattle.shape_terms.specs.Points.{coordinate}
use Rattle.report_terms.specs.Lines.{Line}

-- the steps of a contour from its first to its last place, and the coefficients of x and y in a line along them
pub record Run : Type 0 where
  pub first : ℕ
  pub last : ℕ
  pub a : ℤ
  pub b : ℤ

-- the coefficients of a run within the limits are no greater in size
abbrev pub most_coefficient : ℕ
most_coefficient = 2 ^ 23

-- the run has no more steps than the greatest side of a flat picture has pixels, and no greater coefficient. In a report with the number 2 that holds of a flat
-- picture each run is such
abbrev pub is_fair : Run → Bool
is_fair r = nat_le r.last (r.first + most_flat) && nat_le (nat_abs r.a) most_coefficient && nat_le (nat_abs r.b) most_coefficient

-- the run, where it is within the limits
abbrev pub fair : Run → Option Run
fair r = if is_fair r then Some r else None

-- the run of a segment from place b to place e, with the coefficients of its line
abbrev pub run : (b e : ℕ) → List ℤ → Run
run b e a = record { first = b; last = e; a = coordinate a 0; b = coordinate a 1 }

-- the run that a `seg` line gives
abbrev pub run_of : Line → Option Run
run_of (Line.Seg b e t a mu) = fair (run b e a)
run_of _ = None
