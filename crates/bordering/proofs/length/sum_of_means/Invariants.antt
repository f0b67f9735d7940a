use Rattle.std.proofs.Common.{◌≡◌, ◌≤◌, ◌*◌, ◌^◌, take}
use Rattle.bordering.specs.Cells.{all_means}
use Rattle.bordering.proofs.length.sum_of_means.Given as goal

abbrev pub invariant-loop-cell : goal.invariant-loop-cell
invariant-loop-cell l = record { is : l.sum ≡ all_means (take l.cell-index l.cells); small : l.sum ≤ l.cell-index * 2 ^ 41 }
