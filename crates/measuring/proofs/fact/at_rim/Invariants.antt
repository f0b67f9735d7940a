use Rattle.std.proofs.Common.{◌≡◌}
use Rattle.std.specs.Prelude.{slice_index, nat_abs}
use Rattle.std.specs.List.{list_any, range_with_len}
use Rattle.shape_terms.specs.Points.{sides_of, coordinate}
use Rattle.measure_terms.specs.Facts.{at_end}
use Rattle.measuring.proofs.fact.at_rim.Given as goal

abbrev pub invariant-loop-k : goal.invariant-loop-k
invariant-loop-k g l =
    l.rim ≡ list_any (λ k. at_end (slice_index (sides_of (g.P.Point.coords l.sides.lengths)) k) (nat_abs (coordinate (g.P.Point.coords l.p) k)))
    (range_with_len 0 l.k)
