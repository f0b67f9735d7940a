use Rattle.std.proofs.Common.{subst, sym}
use Rattle.std.proofs.lemmas.Result.{err_from_is_err_and}
use Rattle.shape_desk.specs.declared.desk.Place.TheVariants.{Report}
use Rattle.text_terms.specs.Courses.{by_course}
use Rattle.report_text.specs.Checks.{HasChecked}
use Rattle.report_text.proofs.Told.{takes_none}
use Rattle.ball_terms.specs.Lines.{Line, spelled}
use Rattle.ball_terms.specs.Reports.{course}
use Rattle.judge_balls.proofs.check.check_balls.Goals as goal

pub returns-in_err-judge-clause-checked : goal.returns-in_err-judge-clause-checked
returns-in_err-judge-clause-checked g c =
    let p = err_from_is_err_and c.from_residual.result c.from_residual.ensures.1 in
    rw (p.1, p.2) (record { answer = tt; taken = takes_none _ _ })

pub returns-clause-checked : goal.returns-clause-checked
returns-clause-checked g c =
    let X = c.args.grid.now in
    let old = g.D.Desk.state c.args.desk.now in
    let new = g.D.Desk.state c.check_by.new.desk in
    subst (λ d. HasChecked (by_course (spelled d) Line.End (course X)) (old.left Report) old new c.check_by.result) (sym c.is_picture.ensures.picture.axes)
    (c.check_by.ensures.checked X c.in_ok-judge.ensures.stands)
