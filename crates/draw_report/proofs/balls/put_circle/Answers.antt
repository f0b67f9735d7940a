use Rattle.std.proofs.Common.{◌++◌, ap, ◌∙◌}
use Rattle.drawing.proofs.LayerLaws.{five}
use Rattle.draw_report.specs.Circles.{thousandths}
use Rattle.draw_report.proofs.balls.put_circle.Goals as goal

pub returns : goal.returns
returns c =
    five _ _ _ _ _ _ _ _ _ _ _ c.in_ok-put.ensures c.in_ok-put_centre.ensures c.in_ok-put-2.ensures
    (c.in_ok-put_thousandths.ensures ∙ ap (λ n. c.put-2.new.self ++ thousandths n) c.root.ensures) c.in_ok-put-3.ensures
