use Rattle.shape_terms.specs.Points.{sides_of}
use Rattle.report_lines.specs.Seen.{flat_line}
use Rattle.drawing.specs.Seen.{flat}
use Rattle.drawing.proofs.FirstLine.{contours_with_heading}
use Rattle.drawing.proofs.contour_sketch.ContourSketch.new.Goals as goal

pub returns : goal.returns
returns c =
    let h = c.args.heading.now in
    contours_with_heading (flat_line h.line) _ h.given (c.new.ensures (sides_of (flat h.sides.lengths)))
