use Rattle.std.proofs.Common.{◌≡◌, ◌++◌, ap, ◌∙◌, map}
use Rattle.std.specs.Prelude.{codes}
use Rattle.shape_terms.specs.Points.{sides_of}
use Rattle.report_lines.specs.Said.{Said, given_sides, said}
use Rattle.drawing.specs.Seen.{flat}
use Rattle.drawing.specs.Svg.{report_layers}
use Rattle.measuring.specs.Told.{measures_told}
use Rattle.draw_report.specs.Numbers.{deepest_point, number_layer}
use Rattle.draw_report.proofs.NumbersMade.{table_made}
use Rattle.draw_report.proofs.drawings.numbered_text.Goals as goal

pub returns : goal.returns
returns c = λ lines kept told.
    let table = c.in_ok-table.table in
    let sides = sides_of (flat c.sides.result.lengths) in
    let side : sides ≡ given_sides lines = c.sides.ensures ∙ ap (λ (z : Said). z.object.sides) told in
    let slice = c.as_slice.ensures.value in
    record {
      rows = map (measures_told (given_sides lines)) table.rows.items;
      table = table_made c.args.seen.now (said lines) table told c.in_ok-table.ensures;
      text = c.into_text.ensures ∙ c.in_ok-put_numbered.ensures lines kept
          ∙ ap (λ t. t ++ (report_layers lines
          ++ (number_layer sides (map deepest_point (map (measures_told sides) c.as_slice.result.now)) ++ codes "</svg>\n"))) c.new-svg.ensures
          ∙ (λ i. report_layers lines ++ (number_layer (side i) (map deepest_point (map (measures_told (side i)) (slice i))) ++ codes "</svg>\n"));
    }
