use Rattle.std.proofs.Common.{[], ◌∷◌, ap, sym, ◌∙◌, length, arith}
use Rattle.std.proofs.lemmas.Grind.{fold-append}
use Rattle.shape_terms.specs.Points.{sides_of}
use Rattle.report_lines.specs.Seen.{solid_line}
use Rattle.report_lines.proofs.Saying.{some_lines, given_more}
use Rattle.drawing.specs.SolidSeen.{solid}
use Rattle.drawing.specs.Layout.{extent, sheet_sides}
use Rattle.drawing.specs.Canvas.{canvas_of, laid_all}
use Rattle.drawing.specs.Dabs.{no_pen, pen_after, line_dabs, dabs_from}
use Rattle.drawing.proofs.CanvasLaws.{more_dabs}
use Rattle.drawing.proofs.DabLaws.{dabs_more}
use Rattle.drawing.proofs.sheet.SheetSketchP3.take.Goals as goal

pub returns : goal.returns
returns c = λ lines h.
    let sides = sides_of (solid c.args.self.now.sides.lengths) in
    let l = solid_line c.args.line.now in
    let before = dabs_from sides no_pen lines in
    record {
      given = given_more lines l (some_lines 3 lines (omega arith) (ap length h.given)) ∙ h.given;
      pen = c.after-self.ensures ∙ ap (λ p. pen_after p l) h.pen ∙ sym (fold-append pen_after no_pen lines (l ∷ []));
      canvas = c.draw_line.ensures ∙ (λ i. laid_all (h.canvas i) (line_dabs sides (h.pen i) l)) ∙ more_dabs (sheet_sides (extent sides)) before _
          ∙ ap (canvas_of (sheet_sides (extent sides))) (sym (dabs_more sides no_pen lines l));
      seen = c.in_ok-take.ensures lines h.seen;
    }
