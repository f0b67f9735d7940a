use Rattle.std.proofs.Common.{ℕ, ◌<◌, ◌≤◌, length}
use Rattle.std.specs.Prelude.{slice_index_or}
use Rattle.shape_terms.specs.Limits.{most_round}
use Rattle.shape_terms.specs.Traces.{Contour}
use Rattle.judge_outline.proofs.contour_round.greatest.Given as goal

abbrev pub invariant-loop-k : goal.invariant-loop-k
invariant-loop-k l = record {
  each : (j : ℕ) (d : Contour) → j < l.k → length (slice_index_or l.contours j d).points ≤ l.greatest;
  few : l.greatest ≤ most_round;
}
