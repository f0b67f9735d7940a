use Rattle.std.proofs.Common.{◌≡◌, ◌++◌, take}
use Rattle.std.specs.List.{flat_map}
use Rattle.drawing.specs.Seen.{all_strokes}
use Rattle.drawing.specs.Svg.{stroke_text, of_parity}
use Rattle.drawing.proofs.layers.put_strokes.Given as goal

abbrev pub invariant-loop-s : goal.invariant-loop-s
invariant-loop-s l = l.svg ≡ l.initial.svg ++ flat_map stroke_text (of_parity l.even (all_strokes (take l.s-index l.strokes)))
