use Rattle.draw_report.proofs.OverLaws.{analysis_file}
use Rattle.draw_report.proofs.read.read_analysis.Goals as goal

pub returns-in-Ok-clause-answer : goal.returns-in-Ok-clause-answer
returns-in-Ok-clause-answer g c =
    let s = g.D.Desk.state in
    let b = c.in-Ok.ensures.answer in
    analysis_file c.args.name.now (s c.args.desk.now) (s c.begin.new.self) (s c.read_begun.new.desk) _ c.read_begun.result b.at_front b.only.later
    c.read_begun.ensures.answer
