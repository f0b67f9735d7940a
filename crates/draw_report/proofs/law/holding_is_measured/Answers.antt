use Rattle.draw_report.proofs.MeasuresTell.{measures_tell}
use Rattle.draw_report.proofs.law.holding_is_measured.Goals as goal

pub returns : goal.returns
returns c = measures_tell
