use Rattle.draw_report.proofs.Drawn.{large_or_drawn}
use Rattle.draw_report.proofs.law.large_drawings_are_refused.Goals as goal

pub returns : goal.returns
returns c = λ name text lines old new o report file none ran. large_or_drawn name text lines old new report file o none ran
