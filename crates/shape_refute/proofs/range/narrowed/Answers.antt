use Rattle.std.proofs.Common.{rules, arith, FitsSigned}
use Rattle.std.specs.Int.{w64}
use Rattle.std.proofs.lemmas.Int.{ints, to_z-of_z}
use Rattle.shape_refute.proofs.Ranges.{narrow_up, narrow_down, narrow_none}
use Rattle.shape_refute.proofs.range.narrowed.Goals as goal

pub returns-then-side-gt0 : goal.returns-then-side-gt0
returns-then-side-gt0 c =
    let fn : FitsSigned w64 c.args.n = c.ranges.n in
    let fs : FitsSigned w64 c.args.side = c.ranges.side in
    let fq : FitsSigned w64 c.floor.result = search rules in
    let t = simp to_z-of_z at c.if-side-gt0.true in
    let f = simp to_z-of_z at c.floor.ensures.floor in
    let g = simp to_z-of_z at c.up_to.ensures in
    narrow_up c.args.range.low c.args.range.high c.args.side c.args.n _ c.up_to.result.low c.up_to.result.high (omega (arith, ints, t)) f g

pub returns-then-side-lt0 : goal.returns-then-side-lt0
returns-then-side-lt0 c =
    let fn : FitsSigned w64 c.args.n = c.ranges.n in
    let fs : FitsSigned w64 c.args.side = c.ranges.side in
    let fq : FitsSigned w64 c.floor-then-side-lt0.result = search rules in
    let fo : FitsSigned w64 c.opposite.result = search rules in
    let fp : FitsSigned w64 c.opposite-then-side-lt0.result = search rules in
    let t = simp to_z-of_z at c.if-side-lt0.true in
    let o = simp to_z-of_z at c.opposite.ensures.value in
    let p = simp to_z-of_z at c.opposite-then-side-lt0.ensures.value in
    let f = simp to_z-of_z at c.floor-then-side-lt0.ensures.floor in
    let g = simp to_z-of_z at c.from.ensures in
    narrow_down c.args.range.low c.args.range.high c.args.side _ c.args.n _ _ c.from.result.low c.from.result.high (omega (arith, ints, t)) o p f g

pub returns-else-n-ge0 : goal.returns-else-n-ge0
returns-else-n-ge0 c =
    let fn : FitsSigned w64 c.args.n = c.ranges.n in
    let fs : FitsSigned w64 c.args.side = c.ranges.side in
    let p = simp to_z-of_z at c.if-side-gt0.false in
    let q = simp to_z-of_z at c.if-side-lt0.false in
    let r = simp to_z-of_z at c.if-n-ge0.false in
    narrow_none c.args.range.low c.args.range.high c.args.side c.args.n (λ l. absurd (omega (arith, ints, p, l))) (λ l. absurd (omega (arith, ints, q, l)))
    (omega (arith, ints, r))
