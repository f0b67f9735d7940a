use Rattle.std.proofs.Common.{subst, sym}
use Rattle.text_terms.specs.Reports.{Holds}
use Rattle.ball_terms.specs.Reports.{ball_report}
use Rattle.shape_cli.specs.Parts.{picture_of}
use Rattle.shape_cli.proofs.balls.ball_report_of.Goals as goal

pub returns-in_ok-balls-in-Flat : goal.returns-in_ok-balls-in-Flat
returns-in_ok-balls-in-Flat c =
    let h = subst (λ v. Holds (ball_report (picture_of v)) c.in_ok-balls-in-Flat.field-0.text) (sym c.in-Flat.is) c.in_ok-balls-in-Flat.ensures.report in
    subst (Holds (ball_report (picture_of c.args.image.now))) (sym c.into_report.ensures) h

pub returns-in_ok-balls-in-Solid : goal.returns-in_ok-balls-in-Solid
returns-in_ok-balls-in-Solid c =
    let h = subst (λ v. Holds (ball_report (picture_of v)) c.in_ok-balls-in-Solid.field-0.text) (sym c.in-Solid.is) c.in_ok-balls-in-Solid.ensures.report in
    subst (Holds (ball_report (picture_of c.args.image.now))) (sym c.into_report-in-Solid.ensures) h
