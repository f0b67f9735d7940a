use Rattle.std.proofs.Common.{ℕ, List, ◌+◌}
use Rattle.drawing.proofs.LayerLaws.{one_more, more_numbers}
use Rattle.draw_report.specs.MeasureLines.{object_lines, lines_text}
use Rattle.draw_report.specs.Measured.{shown_at}
use Rattle.draw_report.specs.MeasuresTold.{measured_told}
use Rattle.draw_report.proofs.measure_layer.put_all.Goals as goal

pub loop-i-preserved : goal.loop-i-preserved
loop-i-preserved c =
    let shown = shown_at (measured_told c.args.measured.now) in
    let i = c.loop-i.i in
    let text : ℕ → List ℕ = λ k. object_lines (k + 1) (shown k) in
    one_more c.args.svg.now c.loop-i.svg c.put_object.new.svg (lines_text shown i) (lines_text shown (i + 1)) (text i) c.loop-i.invariant
    c.in_ok-put_object.ensures (more_numbers text i)
