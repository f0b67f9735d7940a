use Rattle.std.proofs.Common.{◌≡◌, drop}
use Rattle.shape_terms.specs.Points.{sides_of, box_count}
use Rattle.shape_terms.specs.FramedBox.{framed_sides}
use Rattle.shape_space.proofs.sides.Sides.framed_count.Given as goal

abbrev pub invariant-loop-k : goal.invariant-loop-k
invariant-loop-k g l = l.n ≡ box_count (framed_sides (sides_of (drop l.k (g.P.Point.coords l.self.lengths))))
