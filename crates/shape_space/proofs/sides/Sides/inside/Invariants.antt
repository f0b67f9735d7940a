use Rattle.std.proofs.Common.{◌<◌, ℕ, pos, ◌≤ℤ◌, ◌<ℤ◌}
use Rattle.shape_terms.specs.Points.{coordinate}
use Rattle.shape_space.proofs.sides.Sides.inside.Given as goal

abbrev pub invariant-loop-k : goal.invariant-loop-k
invariant-loop-k g l = (k : ℕ) → k < l.k → (pos 0 ≤ℤ coordinate (g.P.Point.coords l.p) k)
    × (coordinate (g.P.Point.coords l.p) k <ℤ coordinate (g.P.Point.coords l.self.lengths) k)
