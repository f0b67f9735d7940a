use Rattle.std.proofs.Common.{sym, subst}
use Rattle.std.proofs.lemmas.Result.{err_from_is_err_and}
use Rattle.shape_desk.specs.declared.desk.Place.TheVariants.{Report}
use Rattle.text_terms.specs.Reports.{report_of}
use Rattle.report_text.specs.Checks.{HasCome}
use Rattle.report_text.proofs.Told.{takes_none, told_start, none_ahead}
use Rattle.report_text.proofs.check.check_by.Goals as goal

pub returns-in_err-reader-clause-checked : goal.returns-in_err-reader-clause-checked
returns-in_err-reader-clause-checked g c = λ X start.
    let p = err_from_is_err_and c.from_residual.result c.from_residual.ensures.1 in
    rw (p.1, p.2) (record {
      answer = tt;
      taken = takes_none (report_of g.L.ReportLine.form g.L.ReportLine.last (g.J.ReportJudge.good X))
          ((g.D.Desk.state c.args.desk.now).left Report);
    })

pub returns-clause-checked : goal.returns-clause-checked
returns-clause-checked g c = λ X start.
    let text = (g.D.Desk.state c.args.desk.now).left Report in
    let R = report_of g.L.ReportLine.form g.L.ReportLine.last (g.J.ReportJudge.good X) in
    let F = g.J.ReportJudge.stands X c.args.judge.now in
    c.check_from.ensures.checked X text
    (subst (λ left. HasCome R F text left 1) (sym (none_ahead c.in_ok-reader.reader.ahead text c.in_ok-reader.ensures.ahead)) (told_start R text F start))

pub returns-clause-kept : goal.returns-clause-kept
returns-clause-kept g c = λ X start.
    let text = (g.D.Desk.state c.args.desk.now).left Report in
    let R = report_of g.L.ReportLine.form g.L.ReportLine.last (g.J.ReportJudge.good X) in
    let F = g.J.ReportJudge.stands X c.args.judge.now in
    c.check_from.ensures.kept X text
    (subst (λ left. HasCome R F text left 1) (sym (none_ahead c.in_ok-reader.reader.ahead text c.in_ok-reader.ensures.ahead)) (told_start R text F start))
