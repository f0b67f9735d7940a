use Rattle.std.proofs.Common.{◌≡◌, ◌++◌}
use Rattle.std.specs.List.{flat_map, range_with_len}
use Rattle.drawing.specs.Sheets.{shade_path}
use Rattle.drawing.proofs.sheet_layers.put_colour.Given as goal

abbrev pub invariant-loop-shade : goal.invariant-loop-shade
invariant-loop-shade l = l.svg ≡ l.initial.svg ++ flat_map (shade_path l.canvas l.colour) (range_with_len 0 l.shade)
