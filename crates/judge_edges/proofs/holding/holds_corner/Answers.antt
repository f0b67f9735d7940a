use Rattle.std.proofs.Common.{rules, arith, ◌≡◌, FitsSigned, w32, w64}
use Rattle.std.specs.Prelude.{nat_abs}
use Rattle.std.specs.Int.{w8, w128}
use Rattle.std.proofs.lemmas.Int.{ints, to_z-of_z}
use Rattle.shape_crack.specs.Terms.{point_of}
use Rattle.judge_edges.proofs.PathRuns.{value_is, corner_held}
use Rattle.judge_edges.proofs.holding.holds_corner.Goals as goal

pub returns : goal.returns
returns c =
    let line = c.args.line.now in
    let p = c.args.p in
    let f1 : FitsSigned w8 line.h = search rules in
    let f2 : FitsSigned w8 line.v = search rules in
    let f3 : FitsSigned w64 line.a = search rules in
    let f4 : FitsSigned w64 line.c = search rules in
    let f5 : FitsSigned w64 line.mu = search rules in
    let f6 : FitsSigned w32 p.x = search rules in
    let f7 : FitsSigned w32 p.y = search rules in
    let f8 : FitsSigned w64 c.signed.result = search rules in
    let f9 : FitsSigned w64 c.signed-2.result = search rules in
    let g1 : FitsSigned w128 c.weighed.result = search rules in
    let g2 : FitsSigned w128 c.weighed-2.result = search rules in
    let g3 : FitsSigned w128 c.excess-value.result = search rules in
    let ua = simp to_z-of_z at c.unsigned_abs-a.ensures.value in
    let uc = simp to_z-of_z at c.unsigned_abs-c.ensures.value in
    let a : c.unsigned_abs-a.result ≡ nat_abs line.a = omega (arith, ints, ua) in
    let b : c.unsigned_abs-c.result ≡ nat_abs line.c = omega (arith, ints, uc) in
    let v = value_is line (point_of p) c.unsigned_abs-a.result c.unsigned_abs-c.result c.signed.result c.signed-2.result c.weighed.result c.weighed-2.result
    c.excess-value.result a b (simp to_z-of_z at c.signed.ensures.value) (simp to_z-of_z at c.signed-2.ensures.value)
    (simp to_z-of_z at c.weighed.ensures.value) (simp to_z-of_z at c.weighed-2.ensures.value) (simp to_z-of_z at c.excess-value.ensures.value) in
    corner_held line (point_of p) c.unsigned_abs-a.result c.unsigned_abs-c.result c.excess-value.result c.is_between.result a b v
    (simp to_z-of_z at c.is_between.ensures)
