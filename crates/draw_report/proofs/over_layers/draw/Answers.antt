use Rattle.std.proofs.Common.{◌≡◌, ◌++◌, ap, sym, ◌∙◌}
use Rattle.std.specs.Prelude.{codes, slice_index, nat_abs}
use Rattle.shape_terms.specs.Points.{sides_of}
use Rattle.report_lines.specs.Said.{given_sides}
use Rattle.drawing.specs.Object.{pixels}
use Rattle.drawing.specs.Seen.{flat, all_pixels}
use Rattle.drawing.specs.Svg.{head, object_layer}
use Rattle.drawing.proofs.LayerLaws.{four}
use Rattle.draw_report.specs.Layers.{marks_layer, MarksPut}
use Rattle.draw_report.specs.Seen.{all_marks}
use Rattle.draw_report.proofs.over_layers.draw.Goals as goal

pub returns : goal.returns
returns c = λ lines h.
    let a = c.args.analysis.now in
    let given = given_sides lines in
    let all = all_marks c.args.further.now.marks.items in
    let put : MarksPut c.args.further.now.kind lines all c.put_object.new.svg c.put_marks.new.svg = c.in_ok-put_marks.ensures lines h in
    let marks = marks_layer c.args.further.now.kind given put.paths all in
    let s : sides_of (flat a.sides.lengths) ≡ given = sym h.given in
    let x : all_pixels c.deref.result.now ≡ pixels given lines = ap all_pixels c.deref.ensures.value ∙ h.pixels ∙ ap (λ q. pixels q lines) s in
    record {
      paths = put.paths;
      are = put.are;
      drawn =
          c.into_text.ensures ∙ four _ _ _ _ _ _ _ _ _ c.in_ok-put_head.ensures c.in_ok-put_object.ensures put.put c.in_ok-put.ensures
          ∙ ap (λ t. t ++ (head (nat_abs a.sides.lengths.x) (nat_abs a.sides.lengths.y)
          ++ (object_layer (all_pixels c.deref.result.now) ++ (marks ++ codes "</svg>\n")))) c.new-svg.ensures
          ∙ (λ i. head (slice_index (s i) 0) (slice_index (s i) 1) ++ (object_layer (x i) ++ (marks ++ codes "</svg>\n")));
    }
