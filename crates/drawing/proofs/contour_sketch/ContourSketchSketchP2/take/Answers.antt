use Rattle.std.proofs.Common.{ap, ◌∙◌, length, arith}
use Rattle.report_lines.proofs.Saying.{some_lines, given_more}
use Rattle.report_lines.specs.Seen.{flat_line}
use Rattle.drawing.proofs.contour_sketch.ContourSketchSketchP2.take.Goals as goal

pub returns : goal.returns
returns c = λ lines h. record {
  given = given_more lines (flat_line c.args.line.now) (some_lines 2 lines (omega arith) (ap length h.given)) ∙ h.given;
  outlines = c.in_ok-take.ensures lines h.outlines;
}
