use Rattle.std.proofs.Common.{sym, ◌∙◌}
use Rattle.shape_desk.specs.declared.desk.Place.TheVariants.{Report}
use Rattle.shape_desk.specs.Line.{IfTold, IsTooLong, IsCutShort, TakesLine, EndsLines, ahead_of}
use Rattle.report_text.proofs.NextAnswers.{claimed, misspelt, too_long, cut_short, at_end}
use Rattle.report_text.proofs.next.next_of_any.Goals as goal

pub returns-in-Some-clause-answer : goal.returns-in-Some-clause-answer
returns-in-Some-clause-answer g c =
    let old = ahead_of c.args.reader.now.ahead ((g.D.Desk.state c.args.desk.now).left Report) in
    let new = ahead_of c.next_line.new.self.ahead ((g.D.Desk.state c.next_line.new.desk).left Report) in
    let bytes = c.next_line.new.self.line in
    let n = c.in-Ok-Some.field-0-0 in
    let t : TakesLine old new bytes n = rw c.in-Ok-Some.field-0-is at c.in-Ok-Some.ensures.answer in
    let r = c.in-Some.ensures in
    claimed g.L.ReportLine.form old new bytes n (g.L.ReportLine.seen c.in-Some.line) t r.0 (r.1 ∙ c.line.ensures)

pub returns-in-None-clause-answer : goal.returns-in-None-clause-answer
returns-in-None-clause-answer g c =
    let old = ahead_of c.args.reader.now.ahead ((g.D.Desk.state c.args.desk.now).left Report) in
    let new = ahead_of c.next_line.new.self.ahead ((g.D.Desk.state c.next_line.new.desk).left Report) in
    let bytes = c.next_line.new.self.line in
    let n = c.in-Ok-Some.field-0-0 in
    let t : TakesLine old new bytes n = rw c.in-Ok-Some.field-0-is at c.in-Ok-Some.ensures.answer in
    misspelt g.L.ReportLine.form g.met.L.ReportLine.laws old new bytes n t (λ l f e. c.in-None.ensures l f (e ∙ sym c.line.ensures))

pub returns-in-Err-TooLong-clause-answer : goal.returns-in-Err-TooLong-clause-answer
returns-in-Err-TooLong-clause-answer g c =
    let old = ahead_of c.args.reader.now.ahead ((g.D.Desk.state c.args.desk.now).left Report) in
    let h : IfTold old IsTooLong = rw c.in-Err-TooLong.field-0-is at c.in-Err-TooLong.ensures.answer in
    too_long g.L.ReportLine.form old h

pub returns-in-Err-NoLf-clause-answer : goal.returns-in-Err-NoLf-clause-answer
returns-in-Err-NoLf-clause-answer g c =
    let old = ahead_of c.args.reader.now.ahead ((g.D.Desk.state c.args.desk.now).left Report) in
    let h : IfTold old IsCutShort = rw c.in-Err-NoLf.field-0-is at c.in-Err-NoLf.ensures.answer in
    cut_short g.L.ReportLine.form old h

pub returns-in-Ok-None-clause-answer : goal.returns-in-Ok-None-clause-answer
returns-in-Ok-None-clause-answer g c =
    let old = ahead_of c.args.reader.now.ahead ((g.D.Desk.state c.args.desk.now).left Report) in
    let new = ahead_of c.next_line.new.self.ahead ((g.D.Desk.state c.next_line.new.desk).left Report) in
    let e : EndsLines old new c.args.reader.now.line c.next_line.new.self.line = rw c.in-Ok-None.field-0-is at c.in-Ok-None.ensures.answer in
    at_end old e.end

pub returns-in-Err-Read-clause-answer : goal.returns-in-Err-Read-clause-answer
returns-in-Err-Read-clause-answer g c = rw c.in-Err-Read.field-0-is at c.in-Err-Read.ensures.answer
