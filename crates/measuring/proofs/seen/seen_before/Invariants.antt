use Rattle.std.specs.Prelude.{slice_index}
use Rattle.shape_terms.specs.Points.{sides_of, raster_point}
use Rattle.shape_terms.specs.Adjacency.{near_point}
use Rattle.shape_adj.proofs.MaskBits.{Marks}
use Rattle.measure_terms.specs.Seen.{IsSeen}
use Rattle.measuring.proofs.seen.seen_before.Given as goal

abbrev pub invariant-loop-k : goal.invariant-loop-k
invariant-loop-k g l =
    Marks (λ j. IsSeen (sides_of (g.P.Point.coords l.near.sides.lengths)) (g.L.Labelling.labels l.labels) (slice_index (g.L.Labelling.labels l.labels) l.i) l.i
    (near_point (raster_point (sides_of (g.P.Point.coords l.near.sides.lengths)) l.i) j)) l.k l.mask
