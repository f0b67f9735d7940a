use Rattle.std.proofs.Common.{◌≡◌}
use Rattle.bordering.specs.Told.{flats, run_told}
use Rattle.bordering.specs.Cells.{ArePassed}
use Rattle.bordering.proofs.cells.add_shares.Given as goal

abbrev pub invariant-loop-i : goal.invariant-loop-i
invariant-loop-i l = (l.along.run ≡ l.initial.along.run) × ArePassed (flats l.points) (run_told l.initial.along.run) l.start l.i l.initial.cells l.cells
