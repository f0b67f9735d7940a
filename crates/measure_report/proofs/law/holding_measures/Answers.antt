use Rattle.measure_report.proofs.Telling.{table_tells}
use Rattle.measure_report.proofs.law.holding_measures.Goals as goal

pub returns : goal.returns
returns c = table_tells
