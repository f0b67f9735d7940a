use Rattle.drawing.proofs.LayerLaws.{four}
use Rattle.drawing.proofs.layers.put_layers.Goals as goal

pub returns : goal.returns
returns c = four _ _ _ _ _ _ _ _ _ c.in_ok-put_head.ensures c.in_ok-put_object.ensures c.in_ok-put_contours.ensures c.in_ok-put_skeleton.ensures
