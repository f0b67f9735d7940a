use Rattle.std.proofs.Common.{ap}
use Rattle.report_terms.specs.Subjects.{subject_of}
use Rattle.shape_cli.specs.Further.{row_of, read_further}
use Rattle.shape_cli.specs.Kinds.{ReportKind, read_report_kind}
use Rattle.shape_cli.proofs.KindRead.{shown_as}
use Rattle.shape_cli.proofs.verdict.shows.Goals as goal

pub returns-in-Analysis : goal.returns-in-Analysis
returns-in-Analysis c = shown_as c.args.kind ReportKind.Analysis (ap read_report_kind c.in-Analysis.is)
    (λ rules X. c.holding_shows.ensures (subject_of X rules))

pub returns-in-Further : goal.returns-in-Further
returns-in-Further c = shown_as c.args.kind (ReportKind.Further (read_further c.in-Further.kind)) (ap read_report_kind c.in-Further.is)
    (λ rules. (row_of (read_further c.in-Further.kind)).tells c.shows.ensures)
