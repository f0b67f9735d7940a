use Rattle.std.proofs.Common.{◌++◌, ◌∙◌}
use Rattle.drawing.proofs.LayerLaws.{three}
use Rattle.draw_report.specs.MeasureLines.{ends_text}
use Rattle.draw_report.proofs.measure_lines.put_width.Goals as goal

pub returns : goal.returns
returns c =
    let down = c.goes_down.ensures in
    let u = c.half_right.ensures in
    let v = c.half_down.ensures in
    let ends = c.in_ok-put_ends.ensures ∙ (λ i. c.open_width.new.svg ++ ends_text (down i) (u i) (v i)) in
    three _ _ _ _ _ _ _ c.in_ok-open_width.ensures ends c.in_ok-put_title.ensures
