use Rattle.std.proofs.Common.{ℕ, ◌+◌, ◌<◌, ◌↔◌, List, [], ◌∷◌, length, ap, sym, ◌∙◌, arith, rules, subst, FitsSigned, w32}
use Rattle.std.proofs.lemmas.Int.{to_z-of_z}
use Rattle.std.proofs.lemmas.List.{length-append}
use Rattle.shape_terms.specs.Adjacency.{near_step}
use Rattle.shape_adj.specs.NearMasks.{In}
use Rattle.measure_terms.specs.Cells.{IsCellOf, dimension, sign}
use Rattle.measuring.specs.declared.cell.Cell.{Cell}
use Rattle.measuring.specs.Tables.{IsCellAt, cell_in}
use Rattle.measuring.proofs.Steps.{cells_more}
use Rattle.measuring.proofs.cell.near_cells.Goals as goal

pub loop-k-preserved : goal.loop-k-preserved
loop-k-preserved g c =
    let d = g.P.Point.DIM in
    let count = c.loop-k.invariant.count in
    let items = c.in_ok-push.ensures.items in
    let fits : FitsSigned w32 c.sign.result = search rules in
    record {
      count = (let many = ap length items ∙ length-append c.loop-k.cells.items (_ ∷ []) in omega (arith, many, count));
      each = subst (λ (xs : List Cell). (k : ℕ) → k < c.loop-k.k + 1 → IsCellAt d k (cell_in xs k)) (sym items)
          (cells_more d c.loop-k.k c.loop-k.cells.items _ count c.loop-k.invariant.each (record {
            shared = subst (λ n. (j : ℕ) → In c.shared_mask.result j ↔ ((j < n) × IsCellOf (near_step d j) (near_step d c.loop-k.k))) g.met.P.Pairing.near_total
                c.shared_mask.ensures;
            sign = to_z-of_z w32 c.sign.result fits ∙ c.sign.ensures.value ∙ ap sign (c.dimension.ensures ∙ ap dimension c.near_step.ensures.value);
          }));
    }
