use Rattle.std.proofs.Common.{◌≡◌, ◌+◌, ◌*◌, ◌<◌, length, set, sym, ap, ◌∙◌, arith}
use Rattle.shape_envelope.proofs.Blocks.{line_in_block}
use Rattle.shape_cells.specs.Counting.{trues}
use Rattle.shape_cells.specs.Held.{trues_kept}
use Rattle.shape_cells.proofs.BitCounts.{more_true, more_false}
use Rattle.shape_cells.proofs.HeldLaws.{length-values, cell_set}
use Rattle.shape_cells.proofs.CopiedCells.{put_more, others_more, put_kept, others_kept}
use Rattle.shape_cells.proofs.few.put_places.Goals as goal
use Rattle.shape_cells.proofs.few.put_places.Goals.{then-has, else-has}

pub loop-j-preserved : goal.loop-j-preserved
loop-j-preserved g c =
    let a = c.args in
    let j = c.loop-j.j in
    let i = c.loop-j.invariant in
    let objects = a.objects.now in
    let cells = c.loop-j.cells in
    let values = (trues_kept g.T.Cell.bare objects cells).values in
    let first = (trues_kept g.T.Cell.bare objects a.cells.now).values in
    let inside : a.at + j < length values = omega (arith, c.requires.inside, length-values g.T.Cell.bare objects cells) in
    let there = line_in_block a.side a.lines (length a.block.now) j a.y (omega arith) c.requires.line (omega (arith, c.requires.room)) in
    let n = i.number in
    let next : a.at + (j + 1) ≡ a.at + j + 1 = omega arith in
    elim c.if-has.branch [
      | then-has w ↦ (
          let t = sym c.has.ensures ∙ w.if-has.true in
          let m = more_true objects (a.at + j) t in
          let v = w.index-block-j.result in
          let all : length cells ≡ trues objects = omega (arith, c.requires.all, c.loop-j.auto.cells) in
          let now : (trues_kept g.T.Cell.bare objects c.if-has.cells).values ≡ set values (a.at + j) v =
          ap (λ x. (trues_kept g.T.Cell.bare objects x).values) (w.cells-is ∙ ap (λ k. set cells k v) n)
          ∙ cell_set g.T.Cell.bare objects cells all (a.at + j) v t in
          rw (now, w.number-is) (record {
            number = rw next (omega (arith, m, n));
            put = put_more objects a.at (λ k. k * a.side + a.y) j values a.block.now v inside there w.index-block-j.is i.put;
            others = others_more objects a.at (λ k. k * a.side + a.y) j values a.block.now v first t i.others;
          }))
      | else-has w ↦ (
          let f = sym c.has.ensures ∙ w.if-has.false in
          let m = more_false objects (a.at + j) f in
          rw (w.cells-is, w.number-is) (record {
            number = rw next (omega (arith, m, n));
            put = put_kept objects a.at (λ k. k * a.side + a.y) j values a.block.now f i.put;
            others = others_kept objects a.at (λ k. k * a.side + a.y) j values a.block.now first i.others;
          }))
    ]

pub returns-clause-others : goal.returns-clause-others
returns-clause-others g c = λ d i none. c.loop-j.invariant.others d i (λ k l. none k (omega arith))
