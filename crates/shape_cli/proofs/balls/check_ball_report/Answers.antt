use Rattle.std.proofs.Common.{subst, sym}
use Rattle.shape_desk.specs.declared.desk.Place.TheVariants.{Report}
use Rattle.report_text.specs.Checks.{HasChecked}
use Rattle.ball_terms.specs.Reports.{ball_report}
use Rattle.shape_cli.specs.Parts.{picture_of}
use Rattle.shape_cli.proofs.balls.check_ball_report.Goals as goal

pub returns-in-Flat-clause-checked : goal.returns-in-Flat-clause-checked
returns-in-Flat-clause-checked g c =
    let s = g.D.Desk.state in
    subst (λ v. HasChecked (ball_report (picture_of v)) ((s c.args.desk.now).left Report) (s c.args.desk.now) (s c.check_balls.new.desk) c.check_balls.result)
    (sym c.in-Flat.is) c.check_balls.ensures.checked

pub returns-in-Solid-clause-checked : goal.returns-in-Solid-clause-checked
returns-in-Solid-clause-checked g c =
    let s = g.D.Desk.state in
    subst (λ v. HasChecked (ball_report (picture_of v)) ((s c.args.desk.now).left Report) (s c.args.desk.now) (s c.check_balls-in-Solid.new.desk)
    c.check_balls-in-Solid.result) (sym c.in-Solid.is) c.check_balls-in-Solid.ensures.checked
