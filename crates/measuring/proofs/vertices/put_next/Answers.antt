use Rattle.shape_terms.specs.Points.{sides_of}
use Rattle.measuring.proofs.SiteNumbers.{axes_of}
use Rattle.measuring.proofs.LayersPut.{enough_more}
use Rattle.measuring.proofs.vertices.put_next.Goals as goal

pub returns-clause-put : goal.returns-clause-put
returns-clause-put g c = λ h.
    let ns = g.P.Point.coords c.args.sides.lengths in
    let axes = axes_of ns (g.met.P.Point.two_or_three) (g.met.P.Point.axes c.args.sides.lengths) in
    let end = c.layer_end-end in
    enough_more (sides_of ns) c.args.ends.now c.args.from end.result c.args.all.now.items c.put_layer.new.all.items axes end.ensures.some end.ensures.within
    c.requires.ends end.ensures.layer c.in_ok-put_layer.ensures h
