use Rattle.std.proofs.Common.{◌++◌, ap, sym, ◌∙◌}
use Rattle.shape_terms.specs.Points.{sides_of}
use Rattle.drawing.specs.Seen.{flat, all_strokes}
use Rattle.drawing.specs.Svg.{contour_layer, drawn_contours}
use Rattle.drawing.proofs.LayerLaws.{three}
use Rattle.drawing.proofs.contour_sketch.ContourSketch.draw.Goals as goal

pub returns : goal.returns
returns c = λ lines h.
    let ss = ap all_strokes c.deref.ensures.value ∙ c.in_ok-strokes.ensures lines h.outlines in
    let contours = c.in_ok-put_contours.ensures ∙ ap (λ s. c.put_head.new.svg ++ contour_layer s) ss in
    let text = three _ _ _ _ _ _ _ c.in_ok-put_head.ensures contours c.in_ok-put.ensures in
    c.into_text.ensures ∙ text ∙ ap (λ t. t ++ drawn_contours (sides_of (flat c.args.self.sides.lengths)) lines) c.new-svg.ensures
    ∙ ap (λ q. drawn_contours q lines) (sym h.given)
