use Rattle.std.proofs.Common.{[], ◌∷◌, ◌++◌, length, sym, ap, ◌∙◌, arith}
use Rattle.std.proofs.lemmas.List.FromFn.{map-range_with_len_more, length-map-range_with_len}
use Rattle.shape_cells.proofs.cells.Cells.of_all.Goals as goal

pub loop-place-preserved : goal.loop-place-preserved
loop-place-preserved g c =
    let p = c.loop-place.place in
    c.in_ok-push.ensures.items ∙ (λ i. c.loop-place.invariant i ++ c.bare.ensures i ∷ []) ∙ sym (map-range_with_len_more g.T.Cell.bare 0 p p (omega arith))

pub invariant_of-result : goal.invariant_of-result
invariant_of-result g c =
    let n = ap length c.loop-place.invariant ∙ length-map-range_with_len g.T.Cell.bare 0 c.loop-place.place in
    omega (arith, n, c.requires)
