use Rattle.std.proofs.Common.{ℕ, ◌<◌, ◌≤◌, ◌≡◌, ◌⊎◌}
use Rattle.edge_terms.specs.Corners.{across_by, down_by}
use Rattle.judge_edges.specs.Steps.{step_from}
use Rattle.judge_edges.proofs.holding.goes_all.Given as goal

abbrev pub invariant-loop-i : goal.invariant-loop-i
invariant-loop-i l = (j : ℕ) → l.first ≤ j → j < l.i → (step_from l.path j ≡ across_by l.line.h) ⊎ (step_from l.path j ≡ down_by l.line.v)
