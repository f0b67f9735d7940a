use Rattle.std.proofs.Common.{◌≡◌, ◌++◌, ap, ◌∙◌}
use Rattle.std.specs.Prelude.{codes}
use Rattle.drawing.specs.Seen.{all_strokes}
use Rattle.drawing.specs.Svg.{contour_layer}
use Rattle.drawing.proofs.LayerLaws.{three}
use Rattle.draw_report.specs.Borders.{borders, strokes_over}
use Rattle.draw_report.specs.Seen.{all_marks, all_paths}
use Rattle.draw_report.proofs.OverLaws.{on_ok}
use Rattle.draw_report.proofs.edges.put_edges.Goals as goal

pub returns : goal.returns
returns c =
    let paths = all_paths c.in_ok-paths.paths.items in
    let arcs = borders (all_marks c.args.marks.now) in
    let p : all_paths c.deref.result.now ≡ paths = ap all_paths c.deref.ensures.value in
    let s : all_strokes c.deref-2.result.now ≡ strokes_over paths arcs = ap all_strokes c.deref-2.ensures.value ∙ c.in_ok-strokes.ensures
    ∙ ap (λ q. strokes_over q arcs) p in
    let laid : c.put_contours.new.svg ≡ c.put.new.self ++ contour_layer (strokes_over paths arcs) = c.in_ok-put_contours.ensures
    ∙ ap (λ t. c.put.new.self ++ contour_layer t) s in
    on_ok c.put-2.result (λ (q : c.put-2.new.self ≡ c.put_contours.new.svg ++ codes "</g>\n"). record {
      paths = paths;
      are = c.in_ok-paths.ensures;
      put = three _ _ _ _ _ _ _ c.in_ok-put.ensures laid q;
    }) c.put-2.ensures
