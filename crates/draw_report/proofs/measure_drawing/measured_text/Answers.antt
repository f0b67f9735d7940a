use Rattle.std.proofs.Common.{◌≡◌, ◌++◌, ap, ◌∙◌}
use Rattle.std.specs.Prelude.{codes}
use Rattle.shape_terms.specs.Points.{sides_of}
use Rattle.report_lines.specs.Said.{Said, given_sides, said}
use Rattle.drawing.specs.Seen.{flat}
use Rattle.drawing.specs.Svg.{report_layers}
use Rattle.draw_report.specs.MeasureLines.{measure_layer}
use Rattle.draw_report.specs.Measured.{shown_at}
use Rattle.draw_report.specs.MeasuresTold.{measured_told}
use Rattle.draw_report.proofs.MeasuredMade.{labels_made, measured_made}
use Rattle.draw_report.proofs.measure_drawing.measured_text.Goals as goal

pub returns : goal.returns
returns c = λ lines kept told.
    let table = c.in_ok-table.table in
    let m = measured_told c.in_ok-measured.measured in
    let count = c.in_ok-table.ensures.count in
    let sides = sides_of (flat c.sides.result.lengths) in
    let side : sides ≡ given_sides lines = c.sides.ensures ∙ ap (λ (z : Said). z.object.sides) told in
    record {
      labels = table.labels;
      named = labels_made c.args.seen.now (said lines) table.labels told c.in_ok-table.ensures.labels;
      measured = m;
      are = measured_made c.args.seen.now (said lines) table.labels table.count m told count c.in_ok-measured.ensures;
      text = c.into_text.ensures ∙ c.in_ok-put_measured.ensures lines kept
          ∙ ap (λ t. t ++ (report_layers lines ++ (measure_layer sides (shown_at m) table.count ++ codes "</svg>\n"))) c.new-svg.ensures
          ∙ (λ i. report_layers lines ++ (measure_layer (side i) (shown_at m) (count i) ++ codes "</svg>\n"));
    }
