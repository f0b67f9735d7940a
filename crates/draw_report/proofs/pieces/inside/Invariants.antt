use Rattle.std.proofs.Common.{◌≡◌, take}
use Rattle.std.specs.Prelude.{filter}
use Rattle.shape_terms.specs.Points.{sides_of}
use Rattle.drawing.specs.Seen.{flat, all_strokes}
use Rattle.drawing.specs.Outlines.{is_inside}
use Rattle.draw_report.proofs.pieces.inside.Given as goal

abbrev pub invariant-loop-s : goal.invariant-loop-s
invariant-loop-s l = all_strokes l.found.items ≡ filter (is_inside (sides_of (flat l.sides.lengths))) (all_strokes (take l.s-index l.strokes))
