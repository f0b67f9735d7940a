use Rattle.std.proofs.Common.{◌+◌, ◌<◌, length, sym, subst, arith}
use Rattle.std.proofs.lemmas.List.{length-map}
use Rattle.shape_terms.specs.Points.{sides_of}
use Rattle.measuring.specs.Corners.{corner, corners}
use Rattle.measuring.specs.Layers.{AreVerticesPut}
use Rattle.measuring.proofs.LayersPut.{at_vertex, vertex_put}
use Rattle.measuring.proofs.vertices.put_vertex.Goals as goal

pub beside-requires : goal.beside-requires
beside-requires g c =
    let sides = sides_of (g.P.Point.coords c.args.sides.lengths) in
    let layer = c.args.layer.now in
    let within : c.args.at < length (corners c.args.round.now) = (let l = c.requires.within in omega (arith, l, length-map c.args.round.now corner)) in
    let r = at_vertex sides layer (corners c.args.round.now) c.args.at (corner c.vertex-v.result) c.requires.some c.requires.layer c.requires.hull within
    c.vertex-v.ensures.is in
    record { site = c.requires.layer.points.each 0 c.requires.some; other = (r.site, r.beside) }

pub returns : goal.returns
returns g c = λ old h.
    let sides = sides_of (g.P.Point.coords c.args.sides.lengths) in
    let layer = c.args.layer.now in
    let within : c.args.at < length (corners c.args.round.now) = (let l = c.requires.within in omega (arith, l, length-map c.args.round.now corner)) in
    let round = corners c.args.round.now in
    subst (AreVerticesPut layer round (c.args.at + 1) old) (sym c.in_ok-push.ensures.items)
    (vertex_put sides layer round c.args.at (corner c.vertex-v.result) old c.args.all.now.items c.beside.result c.requires.some c.requires.layer c.requires.hull
    within c.vertex-v.ensures.is c.beside.ensures h)
