use Rattle.drawing.proofs.LayerLaws.{five}
use Rattle.drawing.proofs.sheet_layers.put_inks.Goals as goal

pub returns : goal.returns
returns c = five _ _ _ _ _ _ _ _ _ _ _ c.in_ok-put.ensures c.in_ok-put_faces.ensures c.in_ok-put_object.ensures c.in_ok-put_skeleton.ensures
    c.in_ok-put-2.ensures
