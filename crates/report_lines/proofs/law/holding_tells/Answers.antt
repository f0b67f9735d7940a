use Rattle.report_lines.proofs.Holding.{holding_in_order, never_both}
use Rattle.report_lines.proofs.Telling as Telling
use Rattle.report_lines.proofs.law.holding_tells.Goals as goal

pub returns-clause-in_order : goal.returns-clause-in_order
returns-clause-in_order c = holding_in_order

pub returns-clause-tells : goal.returns-clause-tells
returns-clause-tells c = Telling.holding_tells

pub returns-clause-not_refused : goal.returns-clause-not_refused
returns-clause-not_refused c = never_both
