use Rattle.shape_edges.specs.Growing.{HasTold}
use Rattle.shape_edges.proofs.report.add_cycles.Given as goal

abbrev pub invariant-loop-k : goal.invariant-loop-k
invariant-loop-k l = HasTold l.grid l.k l.report
