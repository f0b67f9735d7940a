use Rattle.drawing.proofs.LayerLaws.{one_more, more_numbers}
use Rattle.drawing.specs.Sheets.{colour_layer}
use Rattle.drawing.proofs.sheet_layers.put_faces.Goals as goal

pub loop-colour-preserved : goal.loop-colour-preserved
loop-colour-preserved c =
    one_more _ _ _ _ _ _ c.loop-colour.invariant c.in_ok-put_colour.ensures (more_numbers (colour_layer c.args.canvas.now) c.loop-colour.colour)
