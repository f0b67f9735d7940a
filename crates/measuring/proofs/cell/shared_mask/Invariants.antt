use Rattle.shape_terms.specs.Adjacency.{near_step}
use Rattle.shape_adj.proofs.MaskBits.{Marks}
use Rattle.measure_terms.specs.Cells.{IsCellOf}
use Rattle.measuring.proofs.cell.shared_mask.Given as goal

abbrev pub invariant-loop-j : goal.invariant-loop-j
invariant-loop-j g l = Marks (λ j. IsCellOf (near_step g.P.Point.DIM j) (near_step g.P.Point.DIM l.k)) l.j l.mask
