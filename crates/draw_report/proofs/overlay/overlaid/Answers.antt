use Rattle.std.proofs.lemmas.Result.{err_from_is_err_and}
use Rattle.draw_report.proofs.OverLaws.{refused_over, drawn_over}
use Rattle.draw_report.proofs.overlay.overlaid.Goals as goal

pub returns-in_err-marks-clause-answer : goal.returns-in_err-marks-clause-answer
returns-in_err-marks-clause-answer g c =
    let s = g.D.Desk.state in
    let o = c.in-Ok.ensures.only in
    let p = err_from_is_err_and c.from_residual.result c.from_residual.ensures.1 in
    rw (p.1, p.2) (refused_over c.args.analysis.now c.args.further.now (s c.args.desk.now) (s c.read_analysis.new.desk) (s c.read_further.new.desk)
    c.in-Ok.object c.in-Ok.ensures.answer o.same_files o.later c.in_err-marks.field-0.0 c.in_err-marks.ensures.answer)

pub returns-in-Ok-draw-clause-answer : goal.returns-in-Ok-draw-clause-answer
returns-in-Ok-draw-clause-answer g c =
    let s = g.D.Desk.state in
    let o = c.in-Ok.ensures.only in
    drawn_over c.args.analysis.now c.args.further.now (s c.args.desk.now) (s c.read_analysis.new.desk) (s c.read_further.new.desk) c.in-Ok.object
    c.in-Ok.ensures.answer o.same_files o.later c.in_ok-marks.marks c.in-Ok-draw.svg.items c.in_ok-marks.ensures.answer c.in-Ok-draw.ensures
