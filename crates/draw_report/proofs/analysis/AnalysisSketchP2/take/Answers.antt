use Rattle.std.proofs.Common.{[], ◌∷◌, ◌++◌, ap, sym, ◌∙◌, length, arith}
use Rattle.shape_terms.specs.Points.{sides_of}
use Rattle.report_lines.proofs.Saying.{some_lines, given_more}
use Rattle.report_lines.specs.Seen.{flat_line}
use Rattle.drawing.specs.Object.{pixels}
use Rattle.drawing.specs.Seen.{flat}
use Rattle.drawing.proofs.Deleting.{pixels_more}
use Rattle.draw_report.specs.Contours.{with_line}
use Rattle.draw_report.proofs.ContourLaws.{contours_more}
use Rattle.draw_report.proofs.analysis.AnalysisSketchP2.take.Goals as goal

pub returns : goal.returns
returns c = λ lines h.
    let sides = sides_of (flat c.args.self.now.sides.lengths) in
    let l = flat_line c.args.line.now in
    record {
      given = given_more lines l (some_lines 2 lines (omega arith) (ap length h.given)) ∙ h.given;
      pixels = c.in_ok-take_pixel.ensures ∙ ap (λ t. t ++ pixels sides (l ∷ [])) h.pixels ∙ sym (pixels_more sides lines l);
      contours = c.in_ok-take_contour.ensures ∙ ap (λ t. with_line t l) h.contours ∙ sym (contours_more lines l);
      seen = c.in_ok-take.ensures lines h.seen;
    }
