use Rattle.std.proofs.Common.{sym, subst}
use Rattle.report_terms.specs.Subjects.{subject_of}
use Rattle.shape_analyse.specs.Analyses.{IsReportBy}
use Rattle.shape_cli.proofs.Wrote.{text_written}
use Rattle.shape_cli.proofs.trial.text_of.Goals as goal

pub returns-in-Ok : goal.returns-in-Ok
returns-in-Ok c = λ X names rules which name are there.
    let told = c.tell.ensures X names rules which name _ are there (c.in_ok-page.ensures _) in
    let written = c.in-Ok.ensures _ told.text told.telling in
    subst (IsReportBy (subject_of X rules) name) (sym (text_written _ _ told.text _ c.new-desk.ensures c.into_text.ensures written.text.ok)) told.so
