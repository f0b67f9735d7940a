use Rattle.std.proofs.Common.{◌≡◌, ◌≢◌, ℕ, ◌+◌, ◌*◌, ◌<◌, length, sym, ◌∙◌, arith, rules}
use Rattle.shape_envelope.proofs.Blocks.{line_in_block, lines_apart, copied_more, others_stay}
use Rattle.shape_cells.specs.Held.{trues_kept}
use Rattle.shape_cells.proofs.HeldLaws.{length-values, read_object, read_other}
use Rattle.shape_cells.proofs.BitCounts.{more_true, more_false}
use Rattle.shape_cells.proofs.few.take_places.Goals as goal
use Rattle.shape_cells.proofs.few.take_places.Goals.{then-has, else-has}

pub offset_bounds-block-j : goal.offset_bounds-block-j
offset_bounds-block-j g c =
    let a = c.args in
    let inside = line_in_block a.side a.lines (length c.loop-j.block) c.loop-j.j a.y (omega arith) c.requires.line (omega (arith, c.requires.room)) in
    search (rules, inside)

pub offset_bounds-block-j-else-has : goal.offset_bounds-block-j-else-has
offset_bounds-block-j-else-has g c =
    let a = c.args in
    let inside = line_in_block a.side a.lines (length c.loop-j.block) c.loop-j.j a.y (omega arith) c.requires.line (omega (arith, c.requires.room)) in
    search (rules, inside)

pub loop-j-preserved : goal.loop-j-preserved
loop-j-preserved g c =
    let a = c.args in
    let j = c.loop-j.j in
    let i = c.loop-j.invariant in
    let objects = a.objects.now in
    let values = (trues_kept g.T.Cell.bare objects a.cells.now).values in
    let inside = line_in_block a.side a.lines (length c.loop-j.block) j a.y (omega arith) c.requires.line (omega (arith, c.requires.room)) in
    let apart : (k : ℕ) → k < j → k * a.side + a.y ≢ j * a.side + a.y = λ k l. lines_apart a.side a.y k j c.requires.line l in
    let within : a.at + j < length objects = omega (arith, c.requires.inside) in
    let there : a.at + j < length values = omega (arith, within, length-values g.T.Cell.bare objects a.cells.now) in
    let next : a.at + (j + 1) ≡ a.at + j + 1 = omega arith in
    elim c.if-has.branch [
      | then-has w ↦ (
          let t = sym c.has.ensures ∙ w.if-has.true in
          let m = more_true objects (a.at + j) t in
          let n = i.number in
          let v = w.index-cells-number.result in
          let read = read_object g.T.Cell.bare objects a.cells.now (a.at + j) c.loop-j.number v c.requires.all t n w.index-cells-number.is in
          rw (w.block-is, w.number-is) (record {
            number = rw next (omega (arith, m, n));
            taken = copied_more (λ k. k * a.side + a.y) (λ k. a.at + k) j v c.loop-j.block values apart inside there read i.taken;
            others = others_stay (λ k. k * a.side + a.y) (λ k. a.at + k) j v c.loop-j.block values a.block.now i.others;
          }))
      | else-has w ↦ (
          let f = sym c.has.ensures ∙ w.if-has.false in
          let m = more_false objects (a.at + j) f in
          let n = i.number in
          let v = w.bare.result in
          let read = read_other g.T.Cell.bare objects a.cells.now (a.at + j) v within f w.bare.ensures in
          rw (w.block-is, w.number-is) (record {
            number = rw next (omega (arith, m, n));
            taken = copied_more (λ k. k * a.side + a.y) (λ k. a.at + k) j v c.loop-j.block values apart inside there read i.taken;
            others = others_stay (λ k. k * a.side + a.y) (λ k. a.at + k) j v c.loop-j.block values a.block.now i.others;
          }))
    ]
