use Rattle.std.proofs.Common.{ap, ◌∙◌, ◌≡◌, length, get_or, arith, subst, min}
use Rattle.measure_terms.specs.Lengths.{share}
use Rattle.bordering.specs.Told.{flats, run_told}
use Rattle.bordering.specs.Cells.{cell_with, no_cell, ArePassed}
use Rattle.bordering.proofs.Passing.{passed_more, passed_cut}
use Rattle.bordering.proofs.cells.add_shares.Goals as goal

pub loop-i-preserved : goal.loop-i-preserved
loop-i-preserved c =
    let same = c.share-share.ensures.same ∙ c.loop-i.invariant.0 in
    let put = c.with.ensures ∙ ap (λ x. cell_with (get_or c.loop-i.cells c.loop-i.i no_cell) x)
    (c.share-share.ensures.value ∙ (λ j. share (run_told (c.loop-i.invariant.0 j)) (c.step_at.ensures j))) in
    (same, passed_more _ _ _ _ _ _ _ c.loop-i.auto.i (omega arith) c.loop-i.invariant.1 put)

pub returns-clause-passed : goal.returns-clause-passed
returns-clause-passed c =
    let ps = flats c.args.points.now in
    let r = run_told c.args.along.now.run in
    let n = length c.args.points.now in
    let a = c.args.from in
    let b = c.args.to in
    let old = c.args.cells.now in
    let new = c.loop-i.cells in
    let s : c.min-start.result ≡ min a (min b n) = c.min-start.ensures ∙ ap (min a) c.min-end.ensures in
    let e : c.loop-i.i ≡ min b n = omega arith in
    passed_cut ps r a b n old new c.requires.all
    (subst (λ x. ArePassed ps r x (min b n) old new) s (subst (λ y. ArePassed ps r c.min-start.result y old new) e c.loop-i.invariant.1))
