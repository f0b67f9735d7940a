use Rattle.measuring.specs.Told.{measures_told}
use Rattle.measuring.proofs.TableSteps.{one_empty_more}
use Rattle.measuring.proofs.table.empty_rows.Goals as goal

pub loop-i-preserved : goal.loop-i-preserved
loop-i-preserved c = λ sides. one_empty_more (measures_told sides) c.loop-i.all.items _ c.loop-i.i c.none.result (c.loop-i.invariant sides)
    (c.none.ensures sides) c.in_ok-push.ensures.items
