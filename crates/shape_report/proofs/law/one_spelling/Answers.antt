use Rattle.report_terms.proofs.Spelled.{spelling_injective, short_line}
use Rattle.shape_report.proofs.law.one_spelling.Goals as goal

pub returns-clause-same : goal.returns-clause-same
returns-clause-same c = spelling_injective

pub returns-clause-short : goal.returns-clause-short
returns-clause-short c = short_line
