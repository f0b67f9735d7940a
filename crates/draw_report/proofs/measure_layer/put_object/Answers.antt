use Rattle.std.proofs.Common.{◌+◌, ◌++◌, ap, ◌∙◌}
use Rattle.std.specs.Prelude.{slice_index_or}
use Rattle.drawing.proofs.LayerLaws.{three}
use Rattle.measuring.specs.FeretsTold.{ferets_told}
use Rattle.measuring.specs.Sizes.{hulls_told}
use Rattle.measuring.specs.MomentsTold.{all_told}
use Rattle.draw_report.specs.MeasureLines.{axes_text, width_line, feret_line}
use Rattle.draw_report.specs.Measured.{no_moments, no_axes, no_feret, no_hull}
use Rattle.draw_report.specs.MeasuresTold.{all_axes}
use Rattle.draw_report.proofs.measure_layer.put_object.Goals as goal

pub returns : goal.returns
returns c =
    let i = c.args.i in
    let m = c.moments_at-moments.ensures ∙ ap (λ l. slice_index_or (all_told l) i no_moments) c.as_slice.ensures.value in
    let a = c.axes_at-axes.ensures ∙ ap (λ l. slice_index_or (all_axes l) i no_axes) c.as_slice-2.ensures.value in
    let z = c.hull_at-hull.ensures ∙ ap (λ l. slice_index_or (hulls_told l) i no_hull) c.as_slice-3.ensures.value in
    let f = c.feret_at.ensures ∙ ap (λ l. slice_index_or (ferets_told 2 l) i no_feret) c.as_slice-4.ensures.value in
    let axes = c.in_ok-put_axes.ensures ∙ (λ j. c.args.svg.now ++ axes_text (i + 1) (a j) (m j)) in
    let width = c.in_ok-put_width.ensures ∙ (λ j. c.put_axes.new.svg ++ width_line (i + 1) (z j) (m j)) in
    let feret = c.in_ok-put_feret.ensures ∙ (λ j. c.put_width.new.svg ++ feret_line (i + 1) (f j)) in
    three _ _ _ _ _ _ _ axes width feret
