use Rattle.shape_envelope.proofs.Blocks.{lines_taken}
use Rattle.shape_envelope.proofs.block.take_lines.Goals as goal

pub loop-y-preserved : goal.loop-y-preserved
loop-y-preserved g c =
    let a = c.args in
    let t = c.take_places.ensures in
    record {
      taken = lines_taken a.start a.step a.side a.lines c.loop-y.y c.loop-y-test.true c.loop-y.block c.take_places.new.block a.cells.now
          c.loop-y.invariant.taken t.taken t.others;
    }
