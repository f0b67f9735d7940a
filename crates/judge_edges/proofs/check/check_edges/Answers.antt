use Rattle.std.proofs.lemmas.Result.{err_from_is_err_and}
use Rattle.shape_desk.specs.declared.desk.Place.TheVariants.{Report}
use Rattle.edge_terms.specs.EdgeReports.{edge_report}
use Rattle.report_text.proofs.Told.{takes_none}
use Rattle.judge_edges.proofs.check.check_edges.Goals as goal

pub returns-in_err-judge-clause-checked : goal.returns-in_err-judge-clause-checked
returns-in_err-judge-clause-checked g c =
    let p = err_from_is_err_and c.from_residual.result c.from_residual.ensures.1 in
    rw (p.1, p.2) (record { answer = tt; taken = takes_none (edge_report c.args.grid.now) ((g.D.Desk.state c.args.desk.now).left Report) })
