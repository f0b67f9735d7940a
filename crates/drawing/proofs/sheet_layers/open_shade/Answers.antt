use Rattle.drawing.proofs.LayerLaws.{three}
use Rattle.drawing.proofs.sheet_layers.open_shade.Goals as goal

pub returns : goal.returns
returns c = three _ _ _ _ _ _ _ c.in_ok-put.ensures c.in_ok-count.ensures c.in_ok-put-2.ensures
