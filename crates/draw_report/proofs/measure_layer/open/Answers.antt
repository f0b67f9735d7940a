use Rattle.std.proofs.Common.{◌++◌, ◌/◌, ap, ◌∙◌}
use Rattle.std.specs.Fmt.{decimal}
use Rattle.drawing.proofs.LayerLaws.{three}
use Rattle.draw_report.proofs.measure_layer.open.Goals as goal

pub returns : goal.returns
returns c =
    let size = c.in_ok-count.ensures ∙ ap (λ k. c.put.new.self ++ decimal (4000 / k)) c.scale_of.ensures.value in
    three _ _ _ _ _ _ _ c.in_ok-put.ensures size c.in_ok-put-2.ensures
