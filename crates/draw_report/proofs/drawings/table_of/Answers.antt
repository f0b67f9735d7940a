use Rattle.draw_report.proofs.NumbersMade.{tells_said}
use Rattle.draw_report.proofs.drawings.table_of.Goals as goal

pub returns : goal.returns
returns c = tells_said c.args.seen.now c.object.result.now c.squares.result.now c.left.result.now c.in_ok-table.table c.object.ensures c.squares.ensures.value
    c.left.ensures.value c.in_ok-table.ensures
