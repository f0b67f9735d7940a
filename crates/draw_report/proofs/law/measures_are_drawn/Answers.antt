use Rattle.draw_report.proofs.MeasuresTell.{measures_drawn}
use Rattle.draw_report.proofs.law.measures_are_drawn.Goals as goal

pub returns : goal.returns
returns c = measures_drawn
