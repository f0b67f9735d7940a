use Rattle.drawing.proofs.LayerLaws.{three}
use Rattle.drawing.proofs.sheet_layers.put_shade.Goals as goal

pub returns : goal.returns
returns c = three _ _ _ _ _ _ _ c.in_ok-open_shade.ensures c.in_ok-put_ink.ensures c.in_ok-put.ensures
