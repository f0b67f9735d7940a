use Rattle.report_lines.specs.Made.{about}
use Rattle.report_lines.proofs.Files.{file_made}
use Rattle.report_lines.proofs.top.make_file.Goals as goal

pub returns-in-Ok-clause-answer : goal.returns-in-Ok-clause-answer
returns-in-Ok-clause-answer g c =
    let s = g.D.Desk.state in
    let b = c.in-Ok.ensures.answer in
    file_made (λ v. about v.axes (g.M.Making.makes c.args.making.now)) _ c.args.name.now (s c.args.desk.now) (s c.begin.new.self) (s c.make.new.desk) _
    c.make.result b.at_front b.only.later c.make.ensures.answer
