use Rattle.std.proofs.Common.{◌++◌, ap, ◌∙◌, get_or}
use Rattle.drawing.specs.Svg.{head}
use Rattle.drawing.proofs.LayerLaws.{four}
use Rattle.drawing.proofs.sheet_layers.put_sheet.Goals as goal

pub returns : goal.returns
returns c =
    let w = ap (λ sides. get_or sides 0 0) c.sheet_sides.ensures in
    let h = ap (λ sides. get_or sides 1 0) c.sheet_sides.ensures in
    four _ _ _ _ _ _ _ _ _ (c.in_ok-put_head.ensures ∙ (λ i. c.args.svg.now ++ head (w i) (h i))) c.in_ok-put_ground.ensures c.in_ok-put_inks.ensures
    c.in_ok-put.ensures
