use Rattle.std.proofs.Common.{rules, arith, FitsSigned}
use Rattle.std.specs.Int.{w64}
use Rattle.std.proofs.lemmas.Int.{ints, to_z-of_z}
use Rattle.shape_plane.proofs.products.combine.Goals as goal

pub returns-clause-size : goal.returns-clause-size
returns-clause-size c =
    let f1 = c.ranges.v in
    let f2 = c.ranges.x in
    let f3 = c.ranges.w in
    let f4 = c.ranges.y in
    let f5 : FitsSigned w64 c.product.result = search rules in
    let f6 : FitsSigned w64 c.product-2.result = search rules in
    let p = simp to_z-of_z at c.product.ensures.size in
    let q = simp to_z-of_z at c.product-2.ensures.size in
    let e = simp to_z-of_z at c.sum.ensures in
    λ m n hv hx hw hy. (let a = p m n hv hx in let b = q m n hw hy in omega (arith, ints, a, b, e))
