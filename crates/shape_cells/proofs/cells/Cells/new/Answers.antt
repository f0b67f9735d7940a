use Rattle.std.proofs.Common.{false, length, get_or, map, ap, ◌∙◌, arith}
use Rattle.std.specs.Prelude.{slice_get}
use Rattle.std.specs.List.{range_with_len}
use Rattle.std.proofs.lemmas.Result.{IfOk-weaker}
use Rattle.std.proofs.lemmas.List.FromFn.{length-map-range_with_len}
use Rattle.shape_cells.proofs.BitCounts.{true_within}
use Rattle.shape_cells.proofs.Forms.{marked, all_begun}
use Rattle.shape_cells.proofs.cells.Cells.new.Goals as goal

pub returns-then-count-len-clause-long : goal.returns-then-count-len-clause-long
returns-then-count-len-clause-long g c = IfOk-weaker c.of_trues.result _ _
    (λ x u. ap length u ∙ length-map-range_with_len g.T.Cell.bare 0 (length c.args.objects)) c.of_trues.ensures.values

pub returns-then-count-len-clause-few : goal.returns-then-count-len-clause-few
returns-then-count-len-clause-few g c = IfOk-weaker c.of_trues.result _ _ (λ x u _. u) c.of_trues.ensures.kept

pub returns-then-count-len-clause-bare : goal.returns-then-count-len-clause-bare
returns-then-count-len-clause-bare g c = IfOk-weaker c.of_trues.result _ _
    (λ x u i l. ap (λ values. slice_get values i) u ∙ all_begun g.T.Cell.bare (length c.args.objects) i l) c.of_trues.ensures.values

pub returns-clause-long : goal.returns-clause-long
returns-clause-long g c = IfOk-weaker c.of_all.result _ _
    (λ x u. ap (λ h. length h.values) u ∙ length-map-range_with_len g.T.Cell.bare 0 c.len-places.result ∙ c.len-places.ensures) c.of_all.ensures

pub returns-clause-object : goal.returns-clause-object
returns-clause-object g c = IfOk-weaker c.of_all.result _ _ (λ x u i t.
    let n = length-map-range_with_len g.T.Cell.bare 0 c.len-places.result in
    let l = true_within c.args.objects i t in
    let p = c.len-places.ensures in
    ap (λ h. get_or h.kept i false) u ∙ marked (map g.T.Cell.bare (range_with_len 0 c.len-places.result)) i (omega (arith, n, l, p))) c.of_all.ensures

pub returns-clause-few : goal.returns-clause-few
returns-clause-few g c = IfOk-weaker c.of_all.result _ _
    (λ x u l. absurd (omega (arith, l, c.count.ensures, c.len.ensures, c.if-count-len.false))) c.of_all.ensures

pub returns-clause-bare : goal.returns-clause-bare
returns-clause-bare g c = IfOk-weaker c.of_all.result _ _ (λ x u i l.
    let p = c.len-places.ensures in
    ap (λ h. slice_get h.values i) u ∙ all_begun g.T.Cell.bare c.len-places.result i (omega (arith, l, p))) c.of_all.ensures
