use Rattle.std.proofs.Common.{arith}
use Rattle.shape_cells.specs.Held.{trues_kept}
use Rattle.shape_cells.proofs.CopiedCells.{lines_put, lines_left}
use Rattle.shape_cells.proofs.few.put_lines.Goals as goal

pub loop-y-preserved : goal.loop-y-preserved
loop-y-preserved g c =
    let a = c.args in
    let objects = a.objects.now in
    let i = c.loop-y.invariant in
    let t = c.put_places.ensures in
    let old = (trues_kept g.T.Cell.bare objects c.loop-y.cells).values in
    let now = (trues_kept g.T.Cell.bare objects c.put_places.new.cells).values in
    record {
      put = lines_put objects a.start a.step a.side a.lines c.loop-y.y old now a.block.now c.requires.apart i.put t.put t.others;
      others = lines_left objects a.start a.step a.side a.lines c.loop-y.y (trues_kept g.T.Cell.bare objects a.cells.now).values old now i.others t.others;
    }

pub returns-clause-others : goal.returns-clause-others
returns-clause-others g c = λ d i none. c.loop-y.invariant.others d i (λ j z l h. none j z l (omega arith))
