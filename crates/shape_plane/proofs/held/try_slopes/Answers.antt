use Rattle.std.proofs.Common.{ℕ, map, sym, subst}
use Rattle.std.proofs.lemmas.List.{length-map}
use Rattle.shape_plane.specs.Extremes.{values_at, AreExtremes}
use Rattle.shape_plane.proofs.held.try_slopes.Goals as goal

pub judged-requires-clause-low : goal.judged-requires-clause-low
judged-requires-clause-low g c = c.least_and_greatest-e.ensures.low.small

pub returns : goal.returns
returns g c =
    let points = map g.P.Point.coords c.args.points.now in
    c.judged.ensures points
    (subst (λ (n : ℕ). AreExtremes (values_at g.P.Point.DIM c.args.a.now points) n n c.least_and_greatest-e.result)
    (sym (length-map c.args.points.now g.P.Point.coords)) c.least_and_greatest-e.ensures)
