use Rattle.std.proofs.Common.{◌≡◌, ◌++◌}
use Rattle.draw_report.specs.MeasureLines.{lines_text}
use Rattle.draw_report.specs.Measured.{shown_at}
use Rattle.draw_report.specs.MeasuresTold.{measured_told}
use Rattle.draw_report.proofs.measure_layer.put_all.Given as goal

abbrev pub invariant-loop-i : goal.invariant-loop-i
invariant-loop-i l = l.svg ≡ l.initial.svg ++ lines_text (shown_at (measured_told l.measured)) l.i
