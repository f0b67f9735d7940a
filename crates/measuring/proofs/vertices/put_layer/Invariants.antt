use Rattle.measuring.specs.Corners.{corners}
use Rattle.measuring.specs.Layers.{AreVerticesPut}
use Rattle.measuring.proofs.vertices.put_layer.Given as goal

abbrev pub invariant-loop-at : goal.invariant-loop-at
invariant-loop-at g l = AreVerticesPut l.layer (corners l.round.items) l.at l.fn.all.items l.all.items
