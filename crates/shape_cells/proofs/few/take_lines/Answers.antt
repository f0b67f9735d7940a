use Rattle.shape_envelope.proofs.Blocks.{lines_taken}
use Rattle.shape_cells.specs.Held.{trues_kept}
use Rattle.shape_cells.proofs.few.take_lines.Goals as goal

pub loop-y-preserved : goal.loop-y-preserved
loop-y-preserved g c =
    let a = c.args in
    let t = c.take_places.ensures in
    record {
      taken = lines_taken a.start a.step a.side a.lines c.loop-y.y c.loop-y-test.true c.loop-y.block c.take_places.new.block
          (trues_kept g.T.Cell.bare a.objects.now a.cells.now).values c.loop-y.invariant.taken t.taken t.others;
    }
