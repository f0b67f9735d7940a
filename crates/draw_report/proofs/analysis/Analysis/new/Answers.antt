use Rattle.std.proofs.Common.{◌<◌, [], ◌∷◌, length, ap, sym, ◌∙◌, arith}
use Rattle.shape_terms.specs.Points.{sides_of}
use Rattle.report_lines.specs.Said.{given_sides}
use Rattle.report_lines.specs.Seen.{flat_line}
use Rattle.drawing.specs.Seen.{flat, all_pixels}
use Rattle.draw_report.specs.Seen.{all_paths}
use Rattle.draw_report.proofs.ContourLaws.{heading_gives_none}
use Rattle.draw_report.proofs.analysis.Analysis.new.Goals as goal

pub returns : goal.returns
returns c =
    let h = c.args.heading.now in
    let e = ap length h.given in
    let some : 0 < length (given_sides (flat_line h.line ∷ [])) = omega (arith, e) in
    let none = heading_gives_none (sides_of (flat h.sides.lengths)) (flat_line h.line) some in
    record {
      given = h.given;
      pixels = ap all_pixels c.new-2.ensures.items ∙ sym none.0;
      contours = ap all_paths c.new-3.ensures.items ∙ sym none.1;
      seen = c.in_ok-seen.ensures;
    }
