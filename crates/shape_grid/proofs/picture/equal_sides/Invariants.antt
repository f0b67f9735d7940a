use Rattle.std.proofs.Common.{◌≡◌, take}
use Rattle.shape_grid.proofs.EqualSides.{equal}
use Rattle.shape_grid.proofs.picture.equal_sides.Given as goal

abbrev pub invariant-loop-k : goal.invariant-loop-k
invariant-loop-k g l = take l.k (g.P.Point.coords l.lengths) ≡ equal l.side l.k
