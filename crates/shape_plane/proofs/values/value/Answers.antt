use Rattle.std.proofs.Common.{rules, FitsSigned, w64, refl}
use Rattle.std.proofs.lemmas.Int.{to_z-of_z}
use Rattle.shape_terms.specs.Points.{coordinate}
use Rattle.shape_space.proofs.ScalarProducts.{flat_value, solid_value}
use Rattle.shape_plane.proofs.Axes.{two_axes, three_axes, first_axis, second_axis, third_axis}
use Rattle.shape_plane.proofs.values.value.Goals as goal

pub returns-then-DIM-eq2-clause-value : goal.returns-then-DIM-eq2-clause-value
returns-then-DIM-eq2-clause-value g c =
    let p = g.P.Point.coords c.args.p in
    let fp : FitsSigned w64 c.term.result = search rules in
    let fq : FitsSigned w64 c.term-2.result = search rules in
    let fs : FitsSigned w64 c.two-flat.result = search rules in
    let es = simp to_z-of_z at c.two-flat.ensures.value in
    simp to_z-of_z (flat_value c.args.a.now p g.P.Point.DIM c.two-flat.result c.term.result c.term-2.result (coordinate p 0) (coordinate p 1)
    c.requires.small.three
    (g.met.P.Point.axes c.args.p) (two_axes g.P.Point.DIM c.DIM.result c.DIM.ensures c.if-DIM-eq2.true) refl refl c.term.ensures.value c.term-2.ensures.value
    es)

pub returns-else-DIM-eq2-clause-value : goal.returns-else-DIM-eq2-clause-value
returns-else-DIM-eq2-clause-value g c =
    let p = g.P.Point.coords c.args.p in
    let fp : FitsSigned w64 c.term.result = search rules in
    let fq : FitsSigned w64 c.term-2.result = search rules in
    let fr : FitsSigned w64 c.term-else-DIM-eq2.result = search rules in
    let fs : FitsSigned w64 c.two-flat.result = search rules in
    let ft : FitsSigned w64 c.three.result = search rules in
    let es = simp to_z-of_z at c.two-flat.ensures.value in
    let er = simp to_z-of_z at c.three.ensures.value in
    simp to_z-of_z (solid_value c.args.a.now p g.P.Point.DIM c.three.result c.two-flat.result c.term.result c.term-2.result c.term-else-DIM-eq2.result
    (coordinate p 0) (coordinate p 1) (coordinate p 2) c.requires.small.three
    (g.met.P.Point.axes c.args.p) (three_axes g.P.Point.DIM c.DIM.result g.met.P.Point.two_or_three c.DIM.ensures c.if-DIM-eq2.false) refl refl refl
    c.term.ensures.value c.term-2.ensures.value c.term-else-DIM-eq2.ensures.value es er)

pub term-requires-clause-axis : goal.term-requires-clause-axis
term-requires-clause-axis g c = first_axis g.P.Point.DIM g.met.P.Point.two_or_three

pub term-requires-2-clause-axis : goal.term-requires-2-clause-axis
term-requires-2-clause-axis g c = second_axis g.P.Point.DIM g.met.P.Point.two_or_three

pub term-requires-else-DIM-eq2-clause-axis : goal.term-requires-else-DIM-eq2-clause-axis
term-requires-else-DIM-eq2-clause-axis g c = third_axis g.P.Point.DIM c.DIM.result g.met.P.Point.two_or_three c.DIM.ensures c.if-DIM-eq2.false
