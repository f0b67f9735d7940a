use Rattle.std.proofs.Common.{◌≡◌, ℕ, ◌+◌, ◌*◌, ◌<◌, get_or}
use Rattle.shape_cells.specs.Counting.{trues_before}
use Rattle.shape_cells.specs.Held.{trues_kept}
use Rattle.shape_cells.proofs.few.take_places.Given as goal

abbrev pub invariant-loop-j : goal.invariant-loop-j
invariant-loop-j g l = record {
  number : l.number ≡ trues_before l.objects (l.at + l.j);
  taken : (d : g.row.T.Denot) (k : ℕ) → k < l.j → get_or l.block (k * l.side + l.y) d ≡ get_or (trues_kept g.T.Cell.bare l.objects l.cells).values (l.at + k) d;
  others : (d : g.row.T.Denot) (i : ℕ) → ((k : ℕ) → k < l.j → i ≡ k * l.side + l.y → ⊥) → get_or l.block i d ≡ get_or l.initial.block i d;
}
