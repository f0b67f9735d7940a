use Rattle.shape_desk.specs.declared.desk.Place.TheVariants.{Report}
use Rattle.shape_desk.specs.Line.{ahead_of}
use Rattle.draw_report.specs.Parts.{kind_by}
use Rattle.draw_report.proofs.Gathering.{begun, bad_behind, gathered}
use Rattle.draw_report.proofs.further.gather.Goals as goal

pub returns-in-Ok-Yes-clause-answer : goal.returns-in-Ok-Yes-clause-answer
returns-in-Ok-Yes-clause-answer g c = λ sides text t.
    let K = kind_by g.L.ReportLine.form g.L.ReportLine.last g.L.OverLine.gives in
    let left = ahead_of c.args.reader.now.ahead ((g.D.Desk.state c.args.desk.now).left Report) in
    let come = begun K sides text left c.new-gatherer.result t c.new-gatherer.ensures.marks c.new-gatherer.ensures.ended in
    let all = rw c.in-Ok-Yes.field-0-is at c.in-Ok-Yes.ensures.kept sides text come in
    rw c.into_marks.ensures (gathered K sides text c.check_from.new.judge all)

pub returns-in-Ok-No-clause-answer : goal.returns-in-Ok-No-clause-answer
returns-in-Ok-No-clause-answer g c = λ sides text t.
    let K = kind_by g.L.ReportLine.form g.L.ReportLine.last g.L.OverLine.gives in
    let left = ahead_of c.args.reader.now.ahead ((g.D.Desk.state c.args.desk.now).left Report) in
    let come = begun K sides text left c.new-gatherer.result t c.new-gatherer.ensures.marks c.new-gatherer.ensures.ended in
    let h = rw c.in-Ok-No.field-0-is at c.in-Ok-No.ensures.checked sides text come in
    bad_behind K sides text left c.in-Ok-No.line t h.answer.1

pub returns-in-Err-ReadFault-clause-answer : goal.returns-in-Err-ReadFault-clause-answer
returns-in-Err-ReadFault-clause-answer g c = λ sides text t.
    let K = kind_by g.L.ReportLine.form g.L.ReportLine.last g.L.OverLine.gives in
    let left = ahead_of c.args.reader.now.ahead ((g.D.Desk.state c.args.desk.now).left Report) in
    let come = begun K sides text left c.new-gatherer.result t c.new-gatherer.ensures.marks c.new-gatherer.ensures.ended in
    let h = rw c.in-Err-ReadFault.field-0-is at c.in-Err-ReadFault.ensures.checked sides text come in
    h.answer
