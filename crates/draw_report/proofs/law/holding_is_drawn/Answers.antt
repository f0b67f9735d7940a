use Rattle.draw_report.proofs.Drawn.{numbers_drawn}
use Rattle.draw_report.proofs.law.holding_is_drawn.Goals as goal

pub returns : goal.returns
returns c = numbers_drawn
