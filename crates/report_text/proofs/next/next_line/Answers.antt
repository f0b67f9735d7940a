use Rattle.std.proofs.Common.{◌<◌, length}
use Rattle.shape_desk.specs.declared.desk.Place.TheVariants.{Report}
use Rattle.report_text.specs.Next.{StandsInFront}
use Rattle.report_text.proofs.NextAnswers.{passed}
use Rattle.report_text.proofs.next.next_line.Goals as goal

pub returns-in-Some-clause-answer : goal.returns-in-Some-clause-answer
returns-in-Some-clause-answer g c =
    let ahead = c.args.reader.now.ahead in
    let left = (g.D.Desk.state c.args.desk.now).left Report in
    let n = c.in-Some.len in
    let l = g.L.ReportLine.seen c.read_front.new.self in
    let inside : n < length ahead = rw c.ahead.ensures.same at c.in-Some.ensures.inside in
    let front : StandsInFront g.L.ReportLine.form ahead n l = rw c.ahead.ensures.same at c.in-Some.ensures.front in
    rw c.pass.ensures.ahead (passed g.L.ReportLine.form ahead left n l inside front)
