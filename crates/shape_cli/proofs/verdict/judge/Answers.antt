use Rattle.std.proofs.lemmas.Result.{err_from_is_err_and}
use Rattle.shape_cli.specs.Kinds.{read_report_kind}
use Rattle.shape_cli.specs.Parts.{picture_of}
use Rattle.shape_cli.proofs.Files.{judged}
use Rattle.shape_cli.proofs.verdict.judge.Goals as goal

pub returns-clause-judged : goal.returns-clause-judged
returns-clause-judged g c =
    let s = g.D.Desk.state in
    let b = c.in_ok-begin.ensures.answer in
    let X = picture_of c.args.image.now in
    judged _ (read_report_kind c.args.kind) X c.args.report.now (s c.args.desk.now) (s c.begin.new.self) (s c.check_image.new.desk) c.check_image.result
    b.at_front b.only.later (c.shows.ensures _ X) c.check_image.ensures.checked

pub returns-in_err-begin-clause-judged : goal.returns-in_err-begin-clause-judged
returns-in_err-begin-clause-judged g c =
    let p = err_from_is_err_and c.from_residual.result c.from_residual.ensures.1 in
    rw (p.1, p.2) c.in_err-begin.ensures.answer.failed
