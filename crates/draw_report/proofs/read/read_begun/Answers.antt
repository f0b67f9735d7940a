use Rattle.std.proofs.Common.{subst}
use Rattle.std.proofs.lemmas.Result.{err_from_is_err_and}
use Rattle.shape_desk.specs.declared.desk.Place.TheVariants.{Report}
use Rattle.shape_desk.specs.Line.{IfTold, ahead_of}
use Rattle.report_text.proofs.Told.{none_ahead}
use Rattle.report_lines.specs.Reports.{flat}
use Rattle.report_lines.specs.Headings.{IsOfNoBox, TakesHeading}
use Rattle.report_lines.specs.Seen.{flat_line}
use Rattle.draw_report.proofs.OverLaws.{no_opening, no_box, read_later}
use Rattle.draw_report.proofs.read.read_begun.Goals as goal

pub returns-in_err-heading-clause-answer : goal.returns-in_err-heading-clause-answer
returns-in_err-heading-clause-answer g c =
    let old = (g.D.Desk.state c.args.desk.now).left Report in
    let new = ahead_of c.read_opening.new.reader.ahead ((g.D.Desk.state c.read_opening.new.desk).left Report) in
    let ahead = none_ahead c.in-Ok.reader.ahead old c.in-Ok.ensures.ahead in
    let p = err_from_is_err_and c.from_residual.result c.from_residual.ensures.1 in
    rw (p.1, p.2) (no_opening (ahead_of c.in-Ok.reader.ahead old) new old _ _ c.in_err-heading.field-0.0 ahead c.in_err-heading.ensures.answer)

pub returns-in-Flat-clause-answer : goal.returns-in-Flat-clause-answer
returns-in-Flat-clause-answer g c =
    let old = (g.D.Desk.state c.args.desk.now).left Report in
    let new = ahead_of c.read_opening.new.reader.ahead ((g.D.Desk.state c.read_opening.new.desk).left Report) in
    let ahead = none_ahead c.in-Ok.reader.ahead old c.in-Ok.ensures.ahead in
    let opened : IfTold (ahead_of c.in-Ok.reader.ahead old) (λ bytes. TakesHeading flat bytes new (flat_line c.in-Flat.heading.line)) =
    rw c.in-Flat.is at c.in_ok-heading.ensures.answer in
    let taken = subst (λ t. IfTold t (λ bytes. TakesHeading flat bytes new (flat_line c.in-Flat.heading.line))) ahead opened in
    read_later old _ _ _ c.read_behind.result c.in_ok-heading.ensures.reads.only.later (c.read_behind.ensures.answer old taken)

pub returns-clause-answer : goal.returns-clause-answer
returns-clause-answer g c =
    let old = (g.D.Desk.state c.args.desk.now).left Report in
    let ahead = none_ahead c.in-Ok.reader.ahead old c.in-Ok.ensures.ahead in
    let h : IfTold (ahead_of c.in-Ok.reader.ahead old) IsOfNoBox = rw c.in-NoBox.is at c.in_ok-heading.ensures.answer in
    no_box old (subst (λ t. IfTold t IsOfNoBox) ahead h)
