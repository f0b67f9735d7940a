use Rattle.std.proofs.Common.{ap}
use Rattle.shape_cli.specs.Further.{row_of, read_further}
use Rattle.shape_cli.specs.Kinds.{ReportKind, read_report_kind}
use Rattle.shape_cli.specs.Parts.{picture_of}
use Rattle.shape_cli.proofs.KindRead.{checked_as}
use Rattle.shape_cli.proofs.verdict.check_image.Goals as goal

pub returns-in-Analysis-clause-checked : goal.returns-in-Analysis-clause-checked
returns-in-Analysis-clause-checked g c = checked_as c.args.kind ReportKind.Analysis (ap read_report_kind c.in-Analysis.is) _ (picture_of c.args.image.now) _ _ _
    c.check_analysis.result c.check_analysis.ensures.checked

pub returns-in-Further-clause-checked : goal.returns-in-Further-clause-checked
returns-in-Further-clause-checked g c =
    let kind = read_further c.in-Further.kind in
    let X = picture_of c.args.image.now in
    checked_as c.args.kind (ReportKind.Further kind) (ap read_report_kind c.in-Further.is) _ X _ _ _ c.check.result
    ((row_of kind).checked X _ _ _ c.check.result c.check.ensures.checked)
