use Rattle.std.proofs.lemmas.Result.{err_from_is_err_and}
use Rattle.report_text.proofs.Told.{takes_none}
use Rattle.judge_pieces.proofs.check.check_pieces.Goals as goal

pub returns-in_err-judge-clause-checked : goal.returns-in_err-judge-clause-checked
returns-in_err-judge-clause-checked g c =
    let p = err_from_is_err_and c.from_residual.result c.from_residual.ensures.1 in
    rw (p.1, p.2) (record { answer = tt; taken = takes_none _ _ })
