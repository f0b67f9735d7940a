use Rattle.std.proofs.Common.{◌++◌, ap, sym, ◌∙◌}
use Rattle.shape_terms.specs.Points.{sides_of}
use Rattle.drawing.specs.Seen.{flat, flats, all_pixels, all_strokes}
use Rattle.drawing.specs.Svg.{layers, drawn}
use Rattle.drawing.proofs.Deleting.{left_seen}
use Rattle.drawing.proofs.sketch.FlatSketch.put_layers.Goals as goal

pub returns : goal.returns
returns c = λ lines h.
    let sides = sides_of (flat c.args.self.sides.lengths) in
    let old = c.args.svg.now in
    let xs = ap all_pixels c.deref-2.ensures.value ∙ h.pixels in
    let ss = ap all_strokes c.deref-3.ensures.value ∙ c.in_ok-strokes.ensures lines h.outlines in
    let found = ap all_pixels c.deref.ensures.value ∙ h.pixels in
    let ps = ap flats (c.deref-4.ensures.value ∙ c.in_ok-left.ensures) ∙ left_seen sides lines c.args.self.deleted c.deref.result.now h.deleted found in
    c.in_ok-put_layers.ensures ∙ (λ i. old ++ layers sides (xs i) (ss i) (ps i)) ∙ ap (λ q. old ++ drawn q lines) (sym h.given)
