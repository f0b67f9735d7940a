use Rattle.draw_report.proofs.Deepest.{numbers_tell}
use Rattle.draw_report.proofs.law.holding_is_numbered.Goals as goal

pub returns : goal.returns
returns c = numbers_tell
