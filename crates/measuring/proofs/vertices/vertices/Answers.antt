use Rattle.std.proofs.Common.{◌≤◌, length, arith}
use Rattle.shape_terms.specs.Points.{sides_of}
use Rattle.measuring.proofs.SiteNumbers.{axes_of}
use Rattle.measuring.proofs.LayersPut.{vertices_are}
use Rattle.measuring.proofs.vertices.vertices.Goals as goal

pub returns : goal.returns
returns g c =
    let ns = g.P.Point.coords c.args.sides.lengths in
    let axes = axes_of ns (g.met.P.Point.two_or_three) (g.met.P.Point.axes c.args.sides.lengths) in
    let ends = c.in_ok-ends.ends.items in
    let all : length ends ≤ c.loop-from.from = (let l = c.len.ensures in let t = c.loop-from-test.false in omega (arith, l, t)) in
    vertices_are (sides_of ns) c.args.stretches.now ends c.loop-from.all.items c.loop-from.from axes c.requires.order c.in_ok-ends.ensures all
    c.loop-from.invariant
