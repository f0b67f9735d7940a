use Rattle.std.proofs.lemmas.Result.{err_from_is_err_and}
use Rattle.shape_desk.specs.declared.desk.Place.TheVariants.{Report}
use Rattle.report_text.proofs.Told.{none_ahead}
use Rattle.drawing.specs.Seen.{flat}
use Rattle.draw_report.proofs.OverLaws.{not_gathered}
use Rattle.draw_report.proofs.further.read_begun.Goals as goal

pub returns-in_err-marks-clause-answer : goal.returns-in_err-marks-clause-answer
returns-in_err-marks-clause-answer g c =
    let old = (g.D.Desk.state c.args.desk.now).left Report in
    let ahead = none_ahead c.in-Ok.reader.ahead old c.in-Ok.ensures.ahead in
    let taken = rw ahead at c.in_ok-kind.ensures.answer in
    let p = err_from_is_err_and c.from_residual-in_err-marks.result c.from_residual-in_err-marks.ensures.1 in
    rw (p.1, p.2) (not_gathered c.in_ok-kind.kind (flat c.args.sides) old _ _ _ c.in_err-marks.field-0.0 c.in_ok-kind.ensures.reads.only.later
    (c.in_err-marks.ensures.answer (flat c.args.sides) old taken))
