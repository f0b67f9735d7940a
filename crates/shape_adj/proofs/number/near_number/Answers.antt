use Rattle.std.proofs.Common.{IsTrue, sym, ap, ◌∙◌, subst}
use Rattle.shape_terms.specs.Points.{Point, sides_of, in_box, raster_point, raster_number}
use Rattle.shape_terms.specs.Adjacency.{moved, near_step}
use Rattle.shape_adj.proofs.Offsets.{number_axes}
use Rattle.shape_adj.proofs.number.near_number.Goals as goal

pub moved_number-requires-clause-inside : goal.moved_number-requires-clause-inside
moved_number-requires-clause-inside g c =
    let ns = g.P.Point.coords c.args.sides.now.lengths in
    let d = number_axes ns c.args.i c.requires.point ∙ g.met.P.Point.axes c.args.sides.now.lengths in
    let e = ap (λ m. near_step m c.args.k) d ∙ sym c.near_step.ensures.value in
    subst (λ (v : Point). IsTrue (in_box (sides_of ns) (moved (raster_point (sides_of ns) c.args.i) v))) e c.requires.inside

pub returns : goal.returns
returns g c =
    let ns = g.P.Point.coords c.args.sides.now.lengths in
    let d = number_axes ns c.args.i c.requires.point ∙ g.met.P.Point.axes c.args.sides.now.lengths in
    let e = ap (λ m. near_step m c.args.k) d ∙ sym c.near_step.ensures.value in
    c.moved_number.ensures ∙ ap (λ (v : Point). raster_number (sides_of ns) (moved (raster_point (sides_of ns) c.args.i) v)) (sym e)
