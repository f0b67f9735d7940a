use Rattle.std.proofs.Common.{◌+◌, ◌*◌, length, arith, rules}
use Rattle.shape_envelope.proofs.Blocks.{line_in_block, lines_apart, copied_more, others_stay}
use Rattle.shape_envelope.proofs.block.take_places.Goals as goal

pub offset_bounds-block-j : goal.offset_bounds-block-j
offset_bounds-block-j g c =
    let inside = line_in_block c.args.side c.args.lines (length c.loop-j.block) c.loop-j.j c.args.y (omega arith) c.requires.line
    (omega (arith, c.requires.room)) in
    search (rules, inside)

pub loop-j-preserved : goal.loop-j-preserved
loop-j-preserved g c =
    let a = c.args in
    let j = c.loop-j.j in
    let inside = line_in_block a.side a.lines (length c.loop-j.block) j a.y (omega arith) c.requires.line (omega (arith, c.requires.room)) in
    let i = c.loop-j.invariant in
    record {
      taken = copied_more (λ k. k * a.side + a.y) (λ k. a.at + k) j c.index-cells-at.result c.loop-j.block a.cells.now
          (λ k l. lines_apart a.side a.y k j c.requires.line l) inside (omega (arith, c.requires.inside)) c.index-cells-at.is i.taken;
      others = others_stay (λ k. k * a.side + a.y) (λ k. a.at + k) j c.index-cells-at.result c.loop-j.block a.cells.now a.block.now i.others;
    }
