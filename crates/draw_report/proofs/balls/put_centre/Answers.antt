use Rattle.std.proofs.Common.{refl}
use Rattle.drawing.proofs.LayerLaws.{one_more}
use Rattle.draw_report.proofs.balls.put_centre.Goals as goal

pub returns : goal.returns
returns c = one_more _ _ _ _ _ _ c.in_ok-put_x.ensures c.in_ok-put_y.ensures refl
