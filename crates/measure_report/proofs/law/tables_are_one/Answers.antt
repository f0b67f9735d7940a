use Rattle.measure_report.proofs.OneTable.{flat_once, solid_once}
use Rattle.measure_report.proofs.law.tables_are_one.Goals as goal

pub returns-clause-flat : goal.returns-clause-flat
returns-clause-flat c = flat_once

pub returns-clause-solid : goal.returns-clause-solid
returns-clause-solid c = solid_once
