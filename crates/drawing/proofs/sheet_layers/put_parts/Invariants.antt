use Rattle.std.proofs.Common.{◌≡◌, ◌++◌, take}
use Rattle.std.specs.List.{flat_map}
use Rattle.drawing.specs.Sheets.{part_text}
use Rattle.drawing.proofs.sheet_layers.put_parts.Given as goal

abbrev pub invariant-loop-panel : goal.invariant-loop-panel
invariant-loop-panel l = l.svg ≡ l.initial.svg ++ flat_map (part_text l.s) (take l.panel-index l.panels)
