use Rattle.std.proofs.Common.{◌≡◌}
use Rattle.shape_terms.specs.Adjacency.{near_step}
use Rattle.measure_terms.specs.Crossings.{step_class}
use Rattle.shape_adj.proofs.MaskBits.{Marks}
use Rattle.measuring.proofs.direction.directions_along.Given as goal

abbrev pub invariant-loop-k : goal.invariant-loop-k
invariant-loop-k g l = Marks (λ k. step_class (near_step g.P.Point.DIM k) ≡ l.class) l.k l.mask
