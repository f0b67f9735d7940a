use Rattle.std.proofs.Common.{◌≡◌, map, take}
use Rattle.shape_plane.specs.Systems.{rows_for}
use Rattle.shape_plane.proofs.whole.solve.Given as goal

abbrev pub invariant-loop-i : goal.invariant-loop-i
invariant-loop-i g l = l.known ≡ rows_for l.axis (map g.P.Point.coords l.points) (take l.i l.pairs)
