use Rattle.std.proofs.Common.{◌≡◌, length}
use Rattle.edge_terms.proofs.EdgeCycles.{AreFrom}
use Rattle.judge_edges.proofs.cycles.cycles_of.Given as goal

abbrev pub invariant-loop-k : goal.invariant-loop-k
invariant-loop-k l = record {
  count : length l.list.items ≡ l.k;
  each : AreFrom l.grid l.contours l.list.items l.k;
}
