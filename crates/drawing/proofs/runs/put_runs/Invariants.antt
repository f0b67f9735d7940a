use Rattle.std.proofs.Common.{◌≡◌, ◌≤◌, ◌-◌, ◌++◌, length, drop}
use Rattle.drawing.specs.Seen.{flats}
use Rattle.drawing.specs.Svg.{runs_text}
use Rattle.drawing.proofs.runs.put_runs.Given as goal

abbrev pub invariant-loop-at : goal.invariant-loop-at
invariant-loop-at l = (l.at ≤ length l.points) × (l.svg ++ runs_text (flats (drop l.at l.points)) ≡ l.initial.svg ++ runs_text (flats l.points))

abbrev pub decreases-loop-at : goal.decreases-loop-at
decreases-loop-at l = length l.points - l.at
