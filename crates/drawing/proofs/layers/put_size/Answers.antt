use Rattle.std.proofs.Common.{◌*◌, ◌++◌, ap, ◌∙◌}
use Rattle.std.specs.Fmt.{decimal}
use Rattle.drawing.proofs.LayerLaws.{four}
use Rattle.drawing.proofs.layers.put_size.Goals as goal

pub returns : goal.returns
returns c =
    let k = c.scale-scale.ensures.value in
    four _ _ _ _ _ _ _ _ _ c.in_ok-put.ensures (c.in_ok-count.ensures ∙ ap (λ k. c.put.new.self ++ decimal (c.args.width * k)) k) c.in_ok-put-2.ensures
    (c.in_ok-count-2.ensures ∙ ap (λ k. c.put-2.new.self ++ decimal (c.args.height * k)) k)
