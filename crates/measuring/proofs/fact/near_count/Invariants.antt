use Rattle.std.proofs.Common.{◌≡◌, ◌≤◌, take}
use Rattle.std.specs.Prelude.{count_by}
use Rattle.shape_terms.specs.Pictures.{at}
use Rattle.shape_terms.specs.Adjacency.{near_points}
use Rattle.measuring.proofs.fact.near_count.Given as goal

abbrev pub invariant-loop-k : goal.invariant-loop-k
invariant-loop-k g l = record {
  counted : l.count ≡ count_by (at l.left) (take l.k (near_points (g.P.Point.coords l.p)));
  few : l.count ≤ l.k;
}
