use Rattle.std.proofs.Common.{◌≡◌, ◌++◌}
use Rattle.std.specs.List.{flat_map, range_with_len}
use Rattle.drawing.specs.Sheets.{colour_layer}
use Rattle.drawing.proofs.sheet_layers.put_faces.Given as goal

abbrev pub invariant-loop-colour : goal.invariant-loop-colour
invariant-loop-colour l = l.svg ≡ l.initial.svg ++ flat_map (colour_layer l.canvas) (range_with_len 0 l.colour)
