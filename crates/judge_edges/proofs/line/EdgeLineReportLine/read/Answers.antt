use Rattle.report_text.proofs.Claims.{reads_through}
use Rattle.edge_terms.specs.Kinds.{table}
use Rattle.edge_terms.specs.Lines.{split}
use Rattle.judge_edges.specs.LineOf.{line_of}
use Rattle.judge_edges.proofs.line.EdgeLineReportLine.read.Goals as goal

pub returns : goal.returns
returns c = reads_through table split line_of c.args.bytes.now c.read_line.result c.read_line.ensures
