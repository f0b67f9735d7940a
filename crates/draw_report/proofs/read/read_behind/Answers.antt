use Rattle.std.proofs.Common.{arith}
use Rattle.report_lines.specs.Seen.{flat_line}
use Rattle.draw_report.proofs.OverLaws.{read_so}
use Rattle.draw_report.proofs.read.read_behind.Goals as goal

pub returns-clause-answer : goal.returns-clause-answer
returns-clause-answer g c = λ text taken. read_so text _ _ _ c.read_lines.result (omega arith)
    (c.read_lines.ensures.answer text (flat_line c.args.heading.now.line) taken c.in-Ok.ensures)
