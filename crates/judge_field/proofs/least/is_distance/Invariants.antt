use Rattle.std.proofs.Common.{◌≡◌, ◌+◌, drop}
use Rattle.shape_terms.specs.Points.{squared_distance}
use Rattle.judge_field.proofs.least.is_distance.Given as goal

abbrev pub invariant-loop-k : goal.invariant-loop-k
invariant-loop-k g l = l.left + squared_distance (drop l.k (g.P.Point.coords l.p)) (drop l.k (g.P.Point.coords l.q)) ≡ l.fn.s
