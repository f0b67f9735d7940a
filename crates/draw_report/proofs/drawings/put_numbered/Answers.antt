use Rattle.drawing.proofs.LayerLaws.{three}
use Rattle.draw_report.proofs.drawings.put_numbered.Goals as goal

pub returns : goal.returns
returns c = λ lines kept. three _ _ _ _ _ _ _ (c.in_ok-put_layers.ensures lines kept) c.in_ok-put_numbers.ensures c.in_ok-put.ensures
