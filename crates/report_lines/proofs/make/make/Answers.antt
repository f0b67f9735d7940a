use Rattle.std.proofs.Common.{subst}
use Rattle.std.proofs.lemmas.Result.{err_from_is_err_and}
use Rattle.shape_desk.specs.declared.desk.Place.TheVariants.{Report}
use Rattle.shape_desk.specs.Line.{IfTold, ahead_of}
use Rattle.report_text.proofs.Told.{none_ahead}
use Rattle.report_lines.specs.Headings.{IsOfNoBox}
use Rattle.report_lines.proofs.MadeLaws.{refused_opening, no_box}
use Rattle.report_lines.proofs.make.make.Goals as goal

pub returns-in_err-heading-clause-answer : goal.returns-in_err-heading-clause-answer
returns-in_err-heading-clause-answer g c =
    let old = (g.D.Desk.state c.args.desk.now).left Report in
    let new = ahead_of c.read_opening.new.reader.ahead ((g.D.Desk.state c.read_opening.new.desk).left Report) in
    let ahead = none_ahead c.in-Ok.reader.ahead old c.in-Ok.ensures.ahead in
    let p = err_from_is_err_and c.from_residual.result c.from_residual.ensures.1 in
    rw (p.1, p.2) (refused_opening (ahead_of c.in-Ok.reader.ahead old) new old _ _ c.in_err-heading.field-0.0 ahead c.in_err-heading.ensures.answer)

pub returns-clause-answer : goal.returns-clause-answer
returns-clause-answer g c =
    let old = (g.D.Desk.state c.args.desk.now).left Report in
    let ahead = none_ahead c.in-Ok.reader.ahead old c.in-Ok.ensures.ahead in
    let h : IfTold (ahead_of c.in-Ok.reader.ahead old) IsOfNoBox = rw c.in-NoBox.is at c.in_ok-heading.ensures.answer in
    no_box old (subst (λ t. IfTold t IsOfNoBox) ahead h)
