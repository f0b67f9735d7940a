use Rattle.std.proofs.Common.{◌≡◌, ◌≤◌, take}
use Rattle.std.specs.Prelude.{count_by, not}
use Rattle.shape_terms.specs.Pictures.{at}
use Rattle.shape_terms.specs.Adjacency.{side_points}
use Rattle.measuring.proofs.fact.exposed.Given as goal

abbrev pub invariant-loop-k : goal.invariant-loop-k
invariant-loop-k g l = record {
  counted : l.count ≡ count_by (λ q. not (at l.object q)) (take l.k (side_points (g.P.Point.coords l.p)));
  few : l.count ≤ l.k;
}
