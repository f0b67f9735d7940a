use Rattle.report_lines.proofs.Written.{writes_of}
use Rattle.report_lines.proofs.making_law.reports_are_made.Goals as goal

pub returns : goal.returns
returns g c = λ make. writes_of (g.M.Making.makes make)
