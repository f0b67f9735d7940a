use Rattle.std.proofs.Common.{◌≡◌, ℕ, ◌+◌, ◌*◌, ◌<◌, get_or}
use Rattle.shape_cells.specs.Held.{trues_kept}
use Rattle.shape_cells.proofs.few.take_lines.Given as goal

abbrev pub invariant-loop-y : goal.invariant-loop-y
invariant-loop-y g l = record {
  taken : (d : g.row.T.Denot) (j z : ℕ) → j < l.lines → z < l.y
      → get_or l.block (j * l.side + z) d ≡ get_or (trues_kept g.T.Cell.bare l.objects l.cells).values (l.start + z * l.step + j) d;
}
