use Rattle.std.proofs.Common.{◌++◌, ap, ◌∙◌}
use Rattle.std.specs.Prelude.{codes}
use Rattle.drawing.specs.Svg.{report_layers}
use Rattle.drawing.proofs.sketch.FlatSketch.draw.Goals as goal

pub returns : goal.returns
returns c = λ lines h.
    let layers = c.in_ok-put_layers.ensures lines h ∙ ap (λ t. t ++ report_layers lines) c.new-svg.ensures in
    c.into_text.ensures ∙ c.in_ok-put.ensures ∙ ap (λ t. t ++ codes "</svg>\n") layers
