use Rattle.std.proofs.Common.{rules, ◌∙◌, ap, FitsSigned, w32}
use Rattle.std.specs.Prelude.{ℤ, ◌*ℤ◌, ◌-ℤ◌}
use Rattle.std.specs.Int.{w8}
use Rattle.std.proofs.lemmas.Int.{to_z-of_z}
use Rattle.judge_edges.specs.Ways.{sign_of}
use Rattle.judge_edges.proofs.Shears.{sheared_is}
use Rattle.judge_edges.proofs.shear.sheared.Goals as goal

pub returns-clause-value : goal.returns-clause-value
returns-clause-value c =
    let w = c.args.ways in
    let p = c.args.p in
    let o = c.args.first in
    let f1 : FitsSigned w32 c.signed-x.result = search rules in
    let f2 : FitsSigned w32 c.signed-y.result = search rules in
    let f3 : FitsSigned w32 c.sum.result = search rules in
    let f4 : FitsSigned w8 c.sign.result = search rules in
    let f5 : FitsSigned w8 c.sign-2.result = search rules in
    let g1 : FitsSigned w32 p.x = search rules in
    let g2 : FitsSigned w32 p.y = search rules in
    let g3 : FitsSigned w32 o.x = search rules in
    let g4 : FitsSigned w32 o.y = search rules in
    let x = (simp to_z-of_z at c.signed-x.ensures.value) ∙ ap (λ (h : ℤ). h *ℤ (p.x -ℤ o.x)) c.sign.ensures in
    let y = (simp to_z-of_z at c.signed-y.ensures.value) ∙ ap (λ (v : ℤ). v *ℤ (p.y -ℤ o.y)) c.sign-2.ensures in
    let s = simp to_z-of_z at c.sum.ensures.value in
    simp to_z-of_z (sheared_is (sign_of w.across) (sign_of w.down) p.x p.y o.x o.y c.signed-x.result c.signed-y.result c.sum.result x y s)
