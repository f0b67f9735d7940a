use Rattle.std.proofs.Common.{◌≡◌, ℕ, ◌+◌, ◌*◌, ◌<◌, get_or}
use Rattle.shape_envelope.proofs.block.take_places.Given as goal

abbrev pub invariant-loop-j : goal.invariant-loop-j
invariant-loop-j g l = record {
  taken : (d : g.row.T.Denot) (i : ℕ) → i < l.j → get_or l.block (i * l.side + l.y) d ≡ get_or l.cells (l.at + i) d;
  others : (d : g.row.T.Denot) (i : ℕ) → ((k : ℕ) → k < l.j → i ≡ k * l.side + l.y → ⊥) → get_or l.block i d ≡ get_or l.initial.block i d;
}
