use Rattle.shape_topo.proofs.InnerPlaces.{IsLeft}
use Rattle.shape_topo.proofs.mask.is_inner_place.Given as goal

abbrev pub invariant-loop-k : goal.invariant-loop-k
invariant-loop-k g l = IsLeft (g.P.Point.coords l.sides.lengths) l.i l.k l.left
