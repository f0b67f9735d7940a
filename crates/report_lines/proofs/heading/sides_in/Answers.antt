use Rattle.std.proofs.lemmas.Bool.{false≢true}
use Rattle.report_lines.proofs.Headings.{no_heading}
use Rattle.report_lines.proofs.heading.sides_in.Goals as goal

pub returns-in_default : goal.returns-in_default
returns-in_default g c = record {
  exactly = (λ s. absurd (false≢true s), λ i. absurd (no_heading g.P.Point.MAX_SIDE g.P.Point.coords c.args.line.now c.in_default.not-Shape i));
  given = tt;
}
