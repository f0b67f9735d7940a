use Rattle.std.proofs.Common.{◌++◌, ◌∙◌}
use Rattle.drawing.specs.Svg.{size_text, view_text}
use Rattle.drawing.proofs.LayerLaws.{three}
use Rattle.drawing.proofs.layers.put_head.Goals as goal

pub returns : goal.returns
returns c =
    let w = c.side-width.ensures.value in
    let h = c.side-height.ensures.value in
    three _ _ _ _ _ _ _ (c.in_ok-put_size.ensures ∙ (λ i. c.args.svg.now ++ size_text (w i) (h i)))
    (c.in_ok-put_view.ensures ∙ (λ i. c.put_size.new.svg ++ view_text (w i) (h i))) c.in_ok-put.ensures
