use Rattle.measuring.proofs.TextSteps.{four}
use Rattle.measuring.proofs.text.put_row.Goals as goal

pub returns : goal.returns
returns g c = four _ _ _ _ _ _ _ _ _ c.in_ok-number.ensures c.in_ok-put_cells.ensures c.in_ok-put_cells-2.ensures c.in_ok-put.ensures
