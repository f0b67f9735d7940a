use Rattle.std.proofs.Common.{◌≡◌, length, sym, subst, ◌∙◌, arith}
use Rattle.shape_cells.specs.Held.{Held}
use Rattle.shape_cells.proofs.HeldLaws.{length-values}
use Rattle.shape_cells.proofs.Forms.{some_view, some_length}
use Rattle.shape_cells.proofs.cells.Cells.len.Goals as goal

pub returns-in-Some-clause-places : goal.returns-in-Some-clause-places
returns-in-Some-clause-places g c =
    c.len.ensures.values ∙ sym (some_length g.T.Cell.bare c.self.inside.objects c.self.inside.cells.items c.self.view_is c.in-Some.is)

pub returns-in-Some-clause-few : goal.returns-in-Some-clause-few
returns-in-Some-clause-few g c =
    let n = some_length g.T.Cell.bare c.self.inside.objects c.self.inside.cells.items c.self.view_is c.in-Some.is in
    let l = c.len.ensures.few in
    omega (arith, l, n)

pub returns-in-Some-clause-marks : goal.returns-in-Some-clause-marks
returns-in-Some-clause-marks g c =
    let v = some_view g.T.Cell.bare c.self.inside.objects c.self.inside.cells.items c.self.view_is c.in-Some.is in
    let s = length-values g.T.Cell.bare c.in-Some.objects c.self.inside.cells.items in
    subst (λ (h : Held g.row.T.Denot). length h.kept ≡ length h.values) v (sym s)
