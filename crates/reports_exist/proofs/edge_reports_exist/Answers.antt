use Rattle.reports_exist.proofs.EdgeTexts.{edges_met}
use Rattle.reports_exist.proofs.edge_reports_exist.Goals as goal

pub returns : goal.returns
returns c = edges_met
