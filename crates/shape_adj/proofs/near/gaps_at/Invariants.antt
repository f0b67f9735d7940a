use Rattle.std.proofs.Common.{◌≡◌, length}
use Rattle.shape_terms.specs.Points.{sides_of}
use Rattle.shape_terms.specs.Adjacency.{near_point}
use Rattle.shape_adj.specs.Gaps.{AreGaps}
use Rattle.shape_adj.proofs.near.gaps_at.Given as goal

abbrev pub invariant-loop-k : goal.invariant-loop-k
invariant-loop-k g l = (length l.gaps.items ≡ l.k) × AreGaps (sides_of (g.P.Point.coords l.sides.lengths)) near_point l.gaps.items
