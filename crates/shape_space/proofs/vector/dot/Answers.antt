use Rattle.std.proofs.Common.{rules, arith, get_or, pos, FitsSigned, w32, w64}
use mir.Syntax.{w128}
use Rattle.std.proofs.lemmas.Int.{to_z-of_z}
use Rattle.shape_space.proofs.ScalarProducts.{flat_value, solid_value}
use Rattle.shape_space.proofs.vector.dot.Goals as goal

pub returns-then-DIM-eq2 : goal.returns-then-DIM-eq2
returns-then-DIM-eq2 g c =
    let f0 : FitsSigned w64 (get_or c.args.a.now 0 (pos 0)) = search rules in
    let f1 : FitsSigned w64 (get_or c.args.a.now 1 (pos 0)) = search rules in
    let fx : FitsSigned w32 c.coord.result = search rules in
    let fy : FitsSigned w32 c.coord-2.result = search rules in
    let fp : FitsSigned w128 c.product.result = search rules in
    let fq : FitsSigned w128 c.product-2.result = search rules in
    let fs : FitsSigned w128 c.sum-flat.result = search rules in
    let ex = simp to_z-of_z at c.product.ensures.value in
    let ey = simp to_z-of_z at c.product-2.ensures.value in
    let es = simp to_z-of_z at c.sum-flat.ensures.value in
    simp to_z-of_z (flat_value c.args.a.now (g.P.Point.coords c.args.p) g.P.Point.DIM c.sum-flat.result c.product.result c.product-2.result c.coord.result
    c.coord-2.result
    (search rules) (g.met.P.Point.axes c.args.p) (omega (arith, c.DIM.ensures, c.if-DIM-eq2.true)) c.coord.ensures c.coord-2.ensures ex ey es)

pub returns-else-DIM-eq2 : goal.returns-else-DIM-eq2
returns-else-DIM-eq2 g c =
    let f0 : FitsSigned w64 (get_or c.args.a.now 0 (pos 0)) = search rules in
    let f1 : FitsSigned w64 (get_or c.args.a.now 1 (pos 0)) = search rules in
    let f2 : FitsSigned w64 (get_or c.args.a.now 2 (pos 0)) = search rules in
    let fx : FitsSigned w32 c.coord.result = search rules in
    let fy : FitsSigned w32 c.coord-2.result = search rules in
    let fz : FitsSigned w32 c.coord-else-DIM-eq2.result = search rules in
    let fp : FitsSigned w128 c.product.result = search rules in
    let fq : FitsSigned w128 c.product-2.result = search rules in
    let fr : FitsSigned w128 c.product-else-DIM-eq2.result = search rules in
    let fs : FitsSigned w128 c.sum-flat.result = search rules in
    let ft : FitsSigned w128 c.sum.result = search rules in
    let ex = simp to_z-of_z at c.product.ensures.value in
    let ey = simp to_z-of_z at c.product-2.ensures.value in
    let ez = simp to_z-of_z at c.product-else-DIM-eq2.ensures.value in
    let es = simp to_z-of_z at c.sum-flat.ensures.value in
    let er = simp to_z-of_z at c.sum.ensures.value in
    simp to_z-of_z (solid_value c.args.a.now (g.P.Point.coords c.args.p) g.P.Point.DIM c.sum.result c.sum-flat.result c.product.result c.product-2.result
    c.product-else-DIM-eq2.result c.coord.result c.coord-2.result c.coord-else-DIM-eq2.result
    (search rules) (g.met.P.Point.axes c.args.p) (grind (arith, g.met.P.Point.two_or_three, c.DIM.ensures, c.if-DIM-eq2.false)) c.coord.ensures
    c.coord-2.ensures c.coord-else-DIM-eq2.ensures ex ey ez es er)
