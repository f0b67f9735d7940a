use Rattle.std.proofs.Common.{◌<◌, ap, sym, ◌∙◌, add-one, arith, rules, FitsSigned, w32}
use Rattle.std.specs.Prelude.{pos, ◌+ℤ◌, nat_abs, cond}
use Rattle.std.proofs.lemmas.Int.{ints, to_z-of_z}
use Rattle.shape_terms.specs.Adjacency.{near_step}
use Rattle.shape_adj.specs.NearMasks.{near_total}
use Rattle.measure_terms.specs.Cells.{dimension}
use Rattle.measure_terms.specs.Gains.{gained}
use Rattle.measuring.specs.Tables.{cell_in, is_new}
use Rattle.measuring.proofs.Steps.{small_part}
use Rattle.measuring.proofs.gain.gained.Goals as goal

pub loop-cell-preserved : goal.loop-cell-preserved
loop-cell-preserved g c =
    let d = g.P.Point.DIM in
    let k = c.loop-cell.cell-index in
    let cells = c.args.cells.now in
    let new = is_new cells c.args.seen in
    let s = (cell_in cells k).sign in
    let l : k < near_total d = (let n = c.requires.count in omega (arith, n, c.loop-cell-test.true)) in
    let is = (c.requires.each k l).sign in
    let fits : FitsSigned w32 c.with_cell-n.result = search rules in
    let back = to_z-of_z w32 c.with_cell-n.result fits in
    record {
      value = back ∙ c.with_cell-n.ensures ∙ (λ i. c.loop-cell.invariant.value i +ℤ cond (new k) (is i) (pos 0)) ∙ sym (ap (gained d new) (add-one k));
      small = (
          let e = ap nat_abs (back ∙ c.with_cell-n.ensures) in
          let one = small_part (new k) s (dimension (near_step d k)) is in
          let few = c.loop-cell.invariant.small in
          omega (arith, ints, e, one, few));
    }
