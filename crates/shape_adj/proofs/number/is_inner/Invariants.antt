use Rattle.shape_adj.proofs.Inner.{IsApart}
use Rattle.shape_adj.proofs.number.is_inner.Given as goal

abbrev pub invariant-loop-k : goal.invariant-loop-k
invariant-loop-k g l = IsApart (g.P.Point.coords l.sides.lengths) (g.P.Point.coords l.p) l.k
