use Rattle.std.proofs.Common.{rules, arith, FitsSigned}
use Rattle.std.specs.Int.{w64}
use Rattle.std.proofs.lemmas.Int.{ints, to_z-of_z}
use Rattle.shape_plane.proofs.bound.overlap.Goals as goal

pub returns-clause-size : goal.returns-clause-size
returns-clause-size c =
    let f1 : FitsSigned w64 c.args.lower.x = search rules in
    let f2 : FitsSigned w64 c.args.lower.z = search rules in
    let f3 : FitsSigned w64 c.args.upper.x = search rules in
    let f4 : FitsSigned w64 c.args.upper.z = search rules in
    let f5 : FitsSigned w64 c.product.result = search rules in
    let f6 : FitsSigned w64 c.product-2.result = search rules in
    let p = simp to_z-of_z at c.product.ensures.size in
    let q = simp to_z-of_z at c.product-2.ensures.size in
    let e = simp to_z-of_z at c.difference.ensures in
    λ m n a b d h. (let l = p n m a b in let k = q n m d h in omega (arith, ints, l, k, e))
