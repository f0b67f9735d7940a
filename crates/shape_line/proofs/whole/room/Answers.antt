use Rattle.std.proofs.Common.{rules, arith, ap, ◌≡◌, ◌-ℤ◌, ◌*ℤ◌, ℤ, ◌≤ℤ◌, ◌∙◌, FitsSigned, w64}
use Rattle.std.proofs.lemmas.Int.{ints, to_z-of_z}
use Rattle.shape_line.proofs.whole.room.Goals as goal

at_most : (x y v w : ℤ) → x ≡ v → y ≡ w → w ≤ℤ v → y ≤ℤ x
at_most x y v w e f h = omega (arith, ints)

times : (x y z n : ℤ) → x ≡ y *ℤ n → y ≡ z → x ≡ z *ℤ n
times x y z n e f = e ∙ ap (λ (v : ℤ). v *ℤ n) f

pub over-requires-clause-order : goal.over-requires-clause-order
over-requires-clause-order c =
    let r = c.ranges in
    let f1 = r.more in
    let f2 = r.far in
    let f3 = r.less in
    let f4 = r.near in
    let f5 : FitsSigned w64 c.one_less.result = search rules in
    let f6 : FitsSigned w64 c.one_more.result = search rules in
    let f7 : FitsSigned w64 c.area.result = search rules in
    let f8 : FitsSigned w64 c.area-2.result = search rules in
    let x = times _ _ _ _ (simp to_z-of_z at c.area.ensures.value) (simp to_z-of_z at c.one_less.ensures.value) in
    let y = times _ _ _ _ (simp to_z-of_z at c.area-2.ensures.value) (simp to_z-of_z at c.one_more.ensures.value) in
    simp to_z-of_z (at_most _ _ _ _ x y c.requires.order)

pub returns-clause-value : goal.returns-clause-value
returns-clause-value c =
    let r = c.ranges in
    let f1 = r.more in
    let f2 = r.far in
    let f3 = r.less in
    let f4 = r.near in
    let f5 : FitsSigned w64 c.one_less.result = search rules in
    let f6 : FitsSigned w64 c.one_more.result = search rules in
    let f7 : FitsSigned w64 c.area.result = search rules in
    let f8 : FitsSigned w64 c.area-2.result = search rules in
    let x = times _ _ _ _ (simp to_z-of_z at c.area.ensures.value) (simp to_z-of_z at c.one_less.ensures.value) in
    let y = times _ _ _ _ (simp to_z-of_z at c.area-2.ensures.value) (simp to_z-of_z at c.one_more.ensures.value) in
    (simp to_z-of_z at c.over.ensures.value) ∙ (λ i. x i -ℤ y i)
