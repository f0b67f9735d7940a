use Rattle.measure_report.proofs.Whole.{measures_written, written_alike}
use Rattle.measure_report.proofs.law.tables_of_what_holds.Goals as goal

pub returns-clause-measures : goal.returns-clause-measures
returns-clause-measures c = measures_written

pub returns-clause-alike : goal.returns-clause-alike
returns-clause-alike c = written_alike
