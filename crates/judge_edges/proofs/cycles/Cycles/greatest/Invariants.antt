use Rattle.std.proofs.Common.{ℕ, ◌<◌, ◌≤◌, length}
use Rattle.std.specs.Prelude.{slice_index_or}
use Rattle.shape_terms.specs.Limits.{most_round}
use Rattle.edge_terms.specs.EdgeCycles.{EdgeCycle}
use Rattle.judge_edges.proofs.cycles.Cycles.greatest.Given as goal

abbrev pub invariant-loop-k : goal.invariant-loop-k
invariant-loop-k l = record {
  each : (j : ℕ) (d : EdgeCycle) → j < l.k → length (slice_index_or l.self j d).path ≤ l.greatest;
  few : l.greatest ≤ most_round;
}
