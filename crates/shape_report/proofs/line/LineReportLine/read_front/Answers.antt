use Rattle.std.proofs.Common.{arith}
use Rattle.std.proofs.lemmas.Option.{IfSome_then}
use Rattle.shape_report.proofs.line.LineReportLine.read_front.Goals as goal

pub returns-clause-front : goal.returns-clause-front
returns-clause-front g c = IfSome_then c.read_front.result c.read_front.ensures.front (λ n f. record {
  fields = f.fields;
  text = f.text;
  lf = f.lf;
  short = omega (arith, f.short);
})
