use Rattle.std.proofs.Common.{take}
use Rattle.bordering.specs.Told.{flats, runs_told}
use Rattle.bordering.specs.Cells.{AreCells}
use Rattle.bordering.proofs.length.add_runs.Given as goal

abbrev pub invariant-loop-run : goal.invariant-loop-run
invariant-loop-run l = AreCells (flats l.points) (runs_told (take l.run-index l.runs)) l.cells.items
