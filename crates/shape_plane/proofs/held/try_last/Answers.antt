use Rattle.std.proofs.Common.{rules, FitsSigned, ◌++◌, ◌∷◌, []}
use Rattle.std.specs.Int.{w64}
use Rattle.std.proofs.lemmas.Int.{to_z-of_z}
use Rattle.shape_plane.proofs.Holding.{extremes_last}
use Rattle.shape_plane.proofs.held.try_last.Goals as goal

pub judged-requires-clause-low : goal.judged-requires-clause-low
judged-requires-clause-low g c =
    let f : FitsSigned w64 c.value.result = search rules in
    let w = simp to_z-of_z at c.widened.ensures in
    let k = c.requires.held in
    (extremes_last g.P.Point.DIM c.args.held.now.plane.a k.0 (g.P.Point.coords c.args.p) c.args.held.now.ends c.widened.result
    (record { place = c.args.count; value = c.value.result }) k.2.ends k.1 c.value.ensures.value c.value.ensures.small w).low.small

pub returns : goal.returns
returns g c =
    let f : FitsSigned w64 c.value.result = search rules in
    let w = simp to_z-of_z at c.widened.ensures in
    λ points n k.
    c.judged.ensures (points ++ g.P.Point.coords c.args.p ∷ [])
    (extremes_last g.P.Point.DIM c.args.held.now.plane.a points (g.P.Point.coords c.args.p) c.args.held.now.ends c.widened.result
    (record { place = c.args.count; value = c.value.result }) k.ends n c.value.ensures.value c.value.ensures.small w)
