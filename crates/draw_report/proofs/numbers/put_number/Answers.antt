use Rattle.drawing.proofs.LayerLaws.{four}
use Rattle.draw_report.proofs.numbers.put_number.Goals as goal

pub returns : goal.returns
returns c = four _ _ _ _ _ _ _ _ _ c.in_ok-put_place.ensures c.in_ok-put.ensures c.in_ok-count.ensures c.in_ok-put-2.ensures
