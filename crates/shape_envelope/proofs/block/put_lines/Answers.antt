use Rattle.std.proofs.Common.{arith}
use Rattle.shape_envelope.proofs.Blocks.{lines_put, lines_left}
use Rattle.shape_envelope.proofs.block.put_lines.Goals as goal

pub loop-y-preserved : goal.loop-y-preserved
loop-y-preserved g c =
    let a = c.args in
    let i = c.loop-y.invariant in
    let t = c.put_places.ensures in
    record {
      put = lines_put a.start a.step a.side a.lines c.loop-y.y c.loop-y-test.true c.loop-y.cells c.put_places.new.cells a.block.now c.requires.apart i.put t.put
          t.others;
      others = lines_left a.start a.step a.side a.lines c.loop-y.y c.loop-y-test.true a.cells.now c.loop-y.cells c.put_places.new.cells i.others t.others;
    }

pub returns-clause-others : goal.returns-clause-others
returns-clause-others g c = λ d i none. c.loop-y.invariant.others d i (λ j z l h. none j z l (omega arith))
