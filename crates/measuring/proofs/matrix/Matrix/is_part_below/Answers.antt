use Rattle.std.proofs.Common.{rules, ◌*◌, ◌∙◌, ap, arith, FitsSigned}
use Rattle.std.specs.Int.{w128}
use Rattle.std.specs.Prelude.{pos, ◌<ℤ◌, ◌≤ℤ◌, nat_abs}
use Rattle.std.proofs.lemmas.Int.{ints, to_z-of_z}
use Rattle.measuring.specs.Turns.{excess}
use Rattle.measuring.specs.Parts.{along}
use Rattle.measuring.proofs.AxisTurning.{more_test, less_test}
use Rattle.measuring.proofs.matrix.Matrix.is_part_below.Goals as goal

pub returns-else-z-lt0 : goal.returns-else-z-lt0
returns-else-z-lt0 c =
    let a = c.args.self.now in
    let e = c.excess-excess.ensures.value in
    let w = c.along-z.ensures.value in
    let fz : FitsSigned w128 c.along-z.result = search rules in
    let fe : FitsSigned w128 c.excess-excess.result = search rules in
    let fx : FitsSigned w128 a.double_x = search rules in
    let fy : FitsSigned w128 a.double_y = search rules in
    let x = simp to_z-of_z at c.product-x.ensures.value in
    let y = simp to_z-of_z at c.product-y.ensures.value in
    let m = simp to_z-of_z at c.product-most.ensures.value in
    let some : pos 0 <ℤ excess c.args.r = omega (arith, ints, e, c.if-excess-gt0.true) in
    let up : pos 0 ≤ℤ along c.args.part a = omega (arith, ints, w, c.if-z-lt0.false) in
    let h = more_test (along c.args.part a) a.double_x a.double_y c.args.r c.product-x.result c.product-y.result c.product-most.result
    (x ∙ ap (λ k. nat_abs k * nat_abs a.double_x) e) (y ∙ ap (λ k. nat_abs k * nat_abs a.double_y) e) (m ∙ ap (λ k. 5000000000 * nat_abs k) w) some up in
    ((λ t. h.0 (c.squares_more.ensures.0 t)), λ b. c.squares_more.ensures.1 (h.1 b))

pub returns-then-z-lt0-2 : goal.returns-then-z-lt0-2
returns-then-z-lt0-2 c =
    let a = c.args.self.now in
    let e = c.excess-excess.ensures.value in
    let w = c.along-z.ensures.value in
    let fz : FitsSigned w128 c.along-z.result = search rules in
    let fe : FitsSigned w128 c.excess-excess.result = search rules in
    let fx : FitsSigned w128 a.double_x = search rules in
    let fy : FitsSigned w128 a.double_y = search rules in
    let x = simp to_z-of_z at c.product-x.ensures.value in
    let y = simp to_z-of_z at c.product-y.ensures.value in
    let m = simp to_z-of_z at c.product-most.ensures.value in
    let none : excess c.args.r ≤ℤ pos 0 = omega (arith, ints, e, c.if-excess-gt0.false) in
    let down : along c.args.part a <ℤ pos 0 = omega (arith, ints, w, c.if-z-lt0-2.true) in
    let h = less_test (along c.args.part a) a.double_x a.double_y c.args.r c.product-x.result c.product-y.result c.product-most.result
    (x ∙ ap (λ k. nat_abs k * nat_abs a.double_x) e) (y ∙ ap (λ k. nat_abs k * nat_abs a.double_y) e)
    (m ∙ ap (λ k. 5000000000 * nat_abs k) w) none down in
    ((λ t. h.0 (c.squares_less.ensures.0 t)), λ b. c.squares_less.ensures.1 (h.1 b))
