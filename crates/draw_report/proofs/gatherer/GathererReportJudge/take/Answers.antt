use Rattle.draw_report.specs.Parts.{kind_by}
use Rattle.draw_report.specs.Seen.{part_of}
use Rattle.draw_report.proofs.Gathering.{stands_more, still_runs}
use Rattle.draw_report.proofs.gatherer.GathererReportJudge.take.Goals as goal

pub returns-clause-stands : goal.returns-clause-stands
returns-clause-stands g c = λ sides lines s.
    let K = kind_by g.L.ReportLine.form g.L.ReportLine.last g.L.OverLine.gives in
    let p = part_of c.part-part.result in
    let runs = still_runs sides c.args.self.now.ended p ((c.may_come.ensures sides).0 c.if-not-may_come.false) in
    stands_more K sides lines (g.L.ReportLine.seen c.args.line.now) c.args.self.now
    (record { marks = c.keep.new.self.marks; ended = c.keep.new.self.ended; room = c.in-Some.room }) p s c.part-part.ensures
    (c.in_ok-keep.ensures.standing runs) c.in_ok-keep.ensures.marks
