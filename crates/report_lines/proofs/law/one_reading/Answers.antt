use Rattle.report_lines.proofs.OneReading as Reading
use Rattle.report_lines.proofs.law.one_reading.Goals as goal

pub returns-clause-lines : goal.returns-clause-lines
returns-clause-lines c = Reading.one_reading

pub returns-clause-space : goal.returns-clause-space
returns-clause-space c = Reading.never_of_both
