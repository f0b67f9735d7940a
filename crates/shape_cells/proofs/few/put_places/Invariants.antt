use Rattle.std.proofs.Common.{◌≡◌, ℕ, ◌+◌, ◌*◌, ◌<◌, true, false, get_or}
use Rattle.shape_cells.specs.Counting.{trues_before}
use Rattle.shape_cells.specs.Held.{trues_kept}
use Rattle.shape_cells.proofs.few.put_places.Given as goal

abbrev pub invariant-loop-j : goal.invariant-loop-j
invariant-loop-j g l = record {
  number : l.number ≡ trues_before l.objects (l.at + l.j);
  put : (d : g.row.T.Denot) (k : ℕ) → k < l.j → get_or l.objects (l.at + k) false ≡ true
      → get_or (trues_kept g.T.Cell.bare l.objects l.cells).values (l.at + k) d ≡ get_or l.block (k * l.side + l.y) d;
  others : (d : g.row.T.Denot) (i : ℕ) → ((k : ℕ) → k < l.j → i ≡ l.at + k → get_or l.objects i false ≡ true → ⊥)
      → get_or (trues_kept g.T.Cell.bare l.objects l.cells).values i d ≡ get_or (trues_kept g.T.Cell.bare l.objects l.initial.cells).values i d;
}
