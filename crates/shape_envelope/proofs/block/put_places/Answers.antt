use Rattle.std.proofs.Common.{◌+◌, ◌*◌, length, arith}
use Rattle.shape_envelope.proofs.Blocks.{line_in_block, copied_more, others_stay}
use Rattle.shape_envelope.proofs.block.put_places.Goals as goal

pub loop-j-preserved : goal.loop-j-preserved
loop-j-preserved g c =
    let a = c.args in
    let j = c.loop-j.j in
    let inside = line_in_block a.side a.lines (length a.block.now) j a.y (omega arith) c.requires.line (omega (arith, c.requires.room)) in
    let i = c.loop-j.invariant in
    record {
      put = copied_more (λ k. a.at + k) (λ k. k * a.side + a.y) j c.index-block-j.result c.loop-j.cells a.block.now
          (λ k l e. omega arith) (omega (arith, c.requires.inside)) inside c.index-block-j.is i.put;
      others = others_stay (λ k. a.at + k) (λ k. k * a.side + a.y) j c.index-block-j.result c.loop-j.cells a.block.now a.cells.now i.others;
    }

pub returns-clause-others : goal.returns-clause-others
returns-clause-others g c = λ d i none. c.loop-j.invariant.others d i (λ k l. none k (omega arith))
