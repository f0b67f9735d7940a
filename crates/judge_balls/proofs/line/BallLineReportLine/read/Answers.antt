use Rattle.report_text.proofs.Claims.{reads_through}
use Rattle.ball_terms.specs.Lines.{table, split}
use Rattle.judge_balls.specs.LineOf.{line_of}
use Rattle.judge_balls.proofs.line.BallLineReportLine.read.Goals as goal

pub returns : goal.returns
returns g c = reads_through (table g.P.Point.DIM) split (line_of g.P.Point.coords) c.args.bytes.now c.read_line.result c.read_line.ensures
