use Rattle.std.proofs.Common.{◌≡◌, ◌∙◌, set, ap, sym, true}
use Rattle.std.specs.Prelude.{pos}
use Rattle.shape_terms.specs.Points.{in_box, raster_number}
use Rattle.shape_terms.specs.FramedBox.{framed_point}
use Rattle.shape_dist.proofs.FramedValues.{row_on_line, row_in_box}
use Rattle.shape_dist.proofs.objects.mark_line.Goals as goal

-- the second point of the line is the first one of the row
first : (g : _) (c : goal.After-raster g) → g.P.Point.coords c.with-first.result ≡ set (framed_point c.args.grid.now.sides c.args.from) 0 (pos 0)
first g c =
    let point = c.framed_point.ensures.value ∙ ap (λ s. framed_point s c.args.from) c.sides-sides.ensures.value in
    c.with-first.ensures ∙ ap (λ q. set q 0 (pos 0)) point

inside : (g : _) (c : goal.After-raster g) → in_box c.args.grid.now.sides (g.P.Point.coords c.with-first.result) ≡ true
inside g c = ap (λ s. in_box s (g.P.Point.coords c.with-first.result)) (sym c.sides-sides.ensures.value) ∙ sym c.inside.ensures ∙ c.if-inside.true

number : (g : _) (c : goal.After-raster g) → c.raster.result ≡ raster_number c.args.grid.now.sides (g.P.Point.coords c.with-first.result)
number g c = c.raster.ensures.value ∙ ap (λ s. raster_number s (g.P.Point.coords c.with-first.result)) c.sides-sides.ensures.value

pub mark_row-requires-clause-row : goal.mark_row-requires-clause-row
mark_row-requires-clause-row g c = λ y l.
    row_on_line c.args.grid.now c.args.from c.args.side _ c.requires.line c.requires.side (first g c) c.raster.result y (inside g c) (number g c) l

pub mark_row-requires-clause-inside : goal.mark_row-requires-clause-inside
mark_row-requires-clause-inside g c =
    row_in_box c.args.grid.now c.args.from c.args.side _ c.requires.line c.requires.side (first g c) c.raster.result (inside g c) (number g c)
