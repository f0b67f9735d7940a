use Rattle.std.proofs.Common.{◌≡◌, ℕ, ◌+◌, ◌*◌, ◌<◌, get_or}
use Rattle.shape_envelope.proofs.block.put_lines.Given as goal

abbrev pub invariant-loop-y : goal.invariant-loop-y
invariant-loop-y g l = record {
  put : (d : g.row.T.Denot) (j z : ℕ) → j < l.lines → z < l.y → get_or l.cells (l.start + z * l.step + j) d ≡ get_or l.block (j * l.side + z) d;
  others : (d : g.row.T.Denot) (i : ℕ) → ((j z : ℕ) → j < l.lines → z < l.y → i ≡ l.start + z * l.step + j → ⊥)
      → get_or l.cells i d ≡ get_or l.initial.cells i d;
}
