use Rattle.std.proofs.Common.{◌≡◌, ◌≤◌, ◌++◌, zero, true, drop}
use Rattle.drawing.specs.Seen.{all_strokes}
use Rattle.draw_report.specs.Going.{strokes_from}
use Rattle.draw_report.specs.Seen.{all_marks, all_paths}
use Rattle.draw_report.proofs.borders.strokes_over.Given as goal

abbrev pub invariant-loop-mark : goal.invariant-loop-mark
invariant-loop-mark l =
    (all_strokes l.strokes.items ++ strokes_from (all_paths l.paths) l.at.begun l.at.even (all_marks (drop l.mark-index l.marks))
    ≡ strokes_from (all_paths l.paths) zero true (all_marks l.marks)) × (l.at.begun ≤ l.mark-index)
