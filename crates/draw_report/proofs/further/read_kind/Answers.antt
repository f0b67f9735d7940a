use Rattle.shape_desk.specs.declared.desk.Place.TheVariants.{Report}
use Rattle.shape_desk.specs.Line.{IfTold, IsTooLong, IsCutShort, TakesLine, EndsLines, ahead_of}
use Rattle.drawing.specs.Seen.{flat}
use Rattle.draw_report.proofs.HeadingLaws.{no_heading, at_end, too_long, cut_short}
use Rattle.draw_report.proofs.further.read_kind.Goals as goal

pub returns-in-None-clause-answer : goal.returns-in-None-clause-answer
returns-in-None-clause-answer g c =
    let old = ahead_of c.args.reader.now.ahead ((g.D.Desk.state c.args.desk.now).left Report) in
    let new = ahead_of c.next_line.new.self.ahead ((g.D.Desk.state c.next_line.new.desk).left Report) in
    let t : TakesLine old new c.next_line.new.self.line c.in-Ok-Some.field-0-0 = rw c.in-Ok-Some.field-0-is at c.in-Ok-Some.ensures.answer in
    let k = rw c.line.ensures at c.in-None.ensures in
    no_heading (flat c.args.sides) old new c.next_line.new.self.line c.in-Ok-Some.field-0-0 t k

pub returns-in-Ok-None-clause-answer : goal.returns-in-Ok-None-clause-answer
returns-in-Ok-None-clause-answer g c =
    let old = ahead_of c.args.reader.now.ahead ((g.D.Desk.state c.args.desk.now).left Report) in
    let new = ahead_of c.next_line.new.self.ahead ((g.D.Desk.state c.next_line.new.desk).left Report) in
    let t : EndsLines old new c.args.reader.now.line c.next_line.new.self.line = rw c.in-Ok-None.field-0-is at c.in-Ok-None.ensures.answer in
    at_end (flat c.args.sides) old t.end

pub returns-in-Err-TooLong-clause-answer : goal.returns-in-Err-TooLong-clause-answer
returns-in-Err-TooLong-clause-answer g c =
    let old = ahead_of c.args.reader.now.ahead ((g.D.Desk.state c.args.desk.now).left Report) in
    let h : IfTold old IsTooLong = rw c.in-Err-TooLong.field-0-is at c.in-Err-TooLong.ensures.answer in
    too_long (flat c.args.sides) old h

pub returns-in-Err-NoLf-clause-answer : goal.returns-in-Err-NoLf-clause-answer
returns-in-Err-NoLf-clause-answer g c =
    let old = ahead_of c.args.reader.now.ahead ((g.D.Desk.state c.args.desk.now).left Report) in
    let h : IfTold old IsCutShort = rw c.in-Err-NoLf.field-0-is at c.in-Err-NoLf.ensures.answer in
    cut_short (flat c.args.sides) old h
