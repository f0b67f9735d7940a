use Rattle.masking.specs.Pictures.{row}
use Rattle.masking.proofs.Growing.{one_more, more_numbers}
use Rattle.masking.proofs.bits.put_rows.Goals as goal

pub loop-y-preserved : goal.loop-y-preserved
loop-y-preserved c = one_more _ _ _ _ _ _ c.loop-y.invariant c.in_ok-put_row.ensures (more_numbers (row c.args.grid.now) c.loop-y.y)
