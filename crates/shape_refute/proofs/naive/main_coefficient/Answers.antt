use Rattle.std.proofs.Common.{◌<◌, ◌≤◌, ◌∙◌, sym, arith, rules, pos, length, take, get_or, FitsSigned, w64}
use Rattle.std.proofs.lemmas.Int.{to_z-of_z}
use Rattle.std.proofs.lemmas.List.{get_or-take, get_or_past, length-take}
use Rattle.shape_refute.proofs.naive.main_coefficient.Goals as goal

pub returns-then-axis-DIM : goal.returns-then-axis-DIM
returns-then-axis-DIM g c =
    let a = c.args.n.now.a in
    let k = c.args.n.now.axis in
    let below : k < g.P.Point.DIM = omega (arith, c.if-axis-DIM.true, c.DIM.ensures) in
    let f : FitsSigned w64 (get_or a k (pos 0)) = search rules in
    to_z-of_z w64 (get_or a k (pos 0)) f ∙ sym (get_or-take g.P.Point.DIM a k (pos 0) below)

pub returns-else-axis-DIM : goal.returns-else-axis-DIM
returns-else-axis-DIM g c =
    let a = c.args.n.now.a in
    let k = c.args.n.now.axis in
    let past : length (take g.P.Point.DIM a) ≤ k = omega (arith, length-take g.P.Point.DIM a, c.if-axis-DIM.false, c.DIM.ensures) in
    sym (get_or_past (take g.P.Point.DIM a) k (pos 0) past)
