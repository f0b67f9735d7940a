use Rattle.std.proofs.Common.{ℕ}
use Rattle.shape_terms.specs.Pictures.{Picture}
use Rattle.shape_terms.specs.Contours.{Crack}
use Rattle.edge_terms.specs.EdgeReports.{State}
use Rattle.shape_edges.specs.Growing.{Tells, IsFoundAt, with_arcs}
use Rattle.shape_edges.proofs.report.add_arcs.Given as goal

abbrev pub invariant-loop-j : goal.invariant-loop-j
invariant-loop-j l = (X : Picture) (k : ℕ) (start : Crack) → IsFoundAt X k start l.cover → Tells X (State.Open (with_arcs k l.cover 0)) l.fn.report
    → Tells X (State.Open (with_arcs k l.cover l.j)) l.report
