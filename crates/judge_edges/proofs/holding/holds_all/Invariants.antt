use Rattle.std.proofs.Common.{ℕ, ◌<◌, ◌≤◌}
use Rattle.edge_terms.specs.EdgeStraight.{HoldsCorner}
use Rattle.judge_edges.specs.Lines.{standard_of}
use Rattle.edge_terms.specs.Corners.{place_of}
use Rattle.judge_edges.proofs.holding.holds_all.Given as goal

abbrev pub invariant-loop-i : goal.invariant-loop-i
invariant-loop-i l = (j : ℕ) → l.first ≤ j → j < l.i → HoldsCorner (standard_of l.line) (place_of l.path j)
