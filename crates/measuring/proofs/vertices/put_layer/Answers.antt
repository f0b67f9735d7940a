use Rattle.std.proofs.Common.{◌≡◌, List, length, map, ap, sym, ◌∙◌, subst, arith}
use Rattle.std.proofs.lemmas.List.{length-map}
use Rattle.shape_terms.specs.Points.{sides_of}
use Rattle.measure_terms.specs.Hulls.{Corner, IsHull}
use Rattle.measuring.specs.Corners.{corner, corners, IsOf, AreInRasterOrder}
use Rattle.measuring.specs.Sites.{site_at}
use Rattle.measuring.specs.Layers.{corner_of, AreVerticesPut}
use Rattle.measuring.proofs.SiteNumbers.{axes_of}
use Rattle.measuring.proofs.Outdoing.{layer_put}
use Rattle.measuring.proofs.LayersPut.{layer_in_order}
use Rattle.measuring.proofs.vertices.put_layer.Goals as goal

pub hull-requires-clause-order : goal.hull-requires-clause-order
hull-requires-clause-order g c =
    let ns = g.P.Point.coords c.args.sides.lengths in
    let layer = c.args.layer.now in
    let axes = axes_of ns (g.met.P.Point.two_or_three) (g.met.P.Point.axes c.args.sides.lengths) in
    subst AreInRasterOrder (sym (ap corners c.as_slice.ensures.value ∙ c.in_ok-points.ensures))
    (layer_in_order (sides_of ns) (site_at layer 0).z layer axes c.requires.layer)

pub returns : goal.returns
returns g c =
    let layer = c.args.layer.now in
    let round = corners c.in_ok-round.round.items in
    let old = c.args.all.now.items in
    let new = c.loop-at.all.items in
    let same : corners c.as_slice.result.now ≡ map corner_of layer = ap corners c.as_slice.ensures.value ∙ c.in_ok-points.ensures in
    let is = subst (λ (t : List Corner). IsHull (IsOf t) round) same c.in_ok-round.ensures.hull in
    let all : c.loop-at.at ≡ length round = omega (arith, length-map c.in_ok-round.round.items corner) in
    layer_put layer round old new is c.requires.layer.layer (subst (λ n. AreVerticesPut layer round n old new) all c.loop-at.invariant)
