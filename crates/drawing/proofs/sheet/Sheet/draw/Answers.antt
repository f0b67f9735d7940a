use Rattle.std.proofs.Common.{◌++◌, ap, sym, ◌∙◌}
use Rattle.shape_terms.specs.Points.{sides_of}
use Rattle.report_lines.specs.Said.{given_sides, said, said_in}
use Rattle.drawing.specs.SolidSeen.{solid}
use Rattle.drawing.specs.Layout.{extent, sheet_sides}
use Rattle.drawing.specs.Canvas.{canvas_of, laid_all}
use Rattle.drawing.specs.Dabs.{no_pen, dabs_from, view_dabs}
use Rattle.drawing.specs.Sheets.{sheet_text}
use Rattle.drawing.proofs.CanvasLaws.{more_dabs}
use Rattle.drawing.proofs.sheet.Sheet.draw.Goals as goal

pub returns : goal.returns
returns c = λ lines h.
    let sides = sides_of (solid c.args.self.sides.lengths) in
    let given = sym h.given in
    let canvas =
    c.draw_views.ensures ∙ (λ i. laid_all (h.canvas i) (view_dabs sides (h.seen i)))
    ∙ more_dabs (sheet_sides (extent sides)) (dabs_from sides no_pen lines) (view_dabs sides (said lines)) in
    c.into_text.ensures ∙ c.in_ok-put_sheet.ensures ∙ ap (λ t. t ++ sheet_text c.extent.result c.draw_views.new.canvas) c.new-svg.ensures
    ∙ (λ i. sheet_text (c.extent.ensures.value i) (canvas i))
    ∙ (λ i. sheet_text (extent (given i))
    (canvas_of (sheet_sides (extent (given i))) (dabs_from (given i) no_pen lines ++ view_dabs (given i) (said_in (given_sides lines) lines))))
