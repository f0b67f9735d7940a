use Rattle.std.proofs.Common.{◌≡◌, ℕ, ◌+◌, ◌*◌, ◌<◌, true, false, get_or}
use Rattle.shape_cells.specs.Held.{trues_kept}
use Rattle.shape_cells.proofs.few.put_lines.Given as goal

abbrev pub invariant-loop-y : goal.invariant-loop-y
invariant-loop-y g l = record {
  put : (d : g.row.T.Denot) (j z : ℕ) → j < l.lines → z < l.y → get_or l.objects (l.start + z * l.step + j) false ≡ true
      → get_or (trues_kept g.T.Cell.bare l.objects l.cells).values (l.start + z * l.step + j) d ≡ get_or l.block (j * l.side + z) d;
  others : (d : g.row.T.Denot) (i : ℕ) → ((j z : ℕ) → j < l.lines → z < l.y → i ≡ l.start + z * l.step + j → get_or l.objects i false ≡ true → ⊥)
      → get_or (trues_kept g.T.Cell.bare l.objects l.cells).values i d ≡ get_or (trues_kept g.T.Cell.bare l.objects l.initial.cells).values i d;
}
