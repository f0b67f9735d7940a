use Rattle.shape_report.specs.LineOf.{line_of}
use Rattle.report_lines.specs.Reports.{space}
use Rattle.report_lines.proofs.Headings.{heading_found}
use Rattle.report_lines.proofs.heading.heading_of.Goals as goal

pub returns : goal.returns
returns g c =
    let e = c.in_ok-line.ensures in
    heading_found (space g.P.Point.DIM g.P.Point.MAX_SIDE) _ (line_of g.P.Point.coords) c.args.bytes.now c.in_ok-line.line c.with_sides.result e.0 e.1
    c.with_sides.ensures.exactly c.with_sides.ensures.line
