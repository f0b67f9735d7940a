use Rattle.std.proofs.Common.{length, get_or, ap, ◌∙◌, arith}
use Rattle.std.proofs.lemmas.List.{with_items_is}
use Rattle.shape_cells.specs.Held.{trues_kept}
use Rattle.shape_cells.proofs.Forms.{some_length, some_kept, some_same, none_has, none_same, none_kept}
use Rattle.shape_cells.proofs.cells.Cells.put_lines.Goals as goal

pub put_lines-requires-clause-inside : goal.put_lines-requires-clause-inside
put_lines-requires-clause-inside g c = λ y l.
    let n = some_length g.T.Cell.bare c.self.inside.objects c.self.inside.cells.items c.self.view_is c.in-Some.is in
    let i = c.requires.inside y l in
    omega (arith, i, n)

pub returns-in-Some-clause-others : goal.returns-in-Some-clause-others
returns-in-Some-clause-others g c = λ d i none.
    let items = with_items_is c.self.inside.cells c.put_lines.new.cells (c.put_lines.auto.cells ∙ c.deref_mut.ensures.len) in
    let kept = some_kept g.T.Cell.bare c.self.inside.objects c.self.inside.cells.items c.self.view_is c.in-Some.is i in
    let old = c.put_lines.ensures.others d i (λ j y l m e t. none j y l m e (kept ∙ t)) in
    rw items (some_same g.T.Cell.bare c.self.inside.objects c.self.inside.cells.items c.self.view_is c.in-Some.is c.put_lines.new.cells i d
    (old ∙ ap (λ x. get_or (trues_kept g.T.Cell.bare c.in-Some.objects x).values i d) c.deref_mut.ensures.value))

pub returns-in-None-clause-others : goal.returns-in-None-clause-others
returns-in-None-clause-others g c = λ d i none.
    let items = with_items_is c.self.inside.cells c.put_lines-in-None.new.cells (c.put_lines-in-None.auto.cells ∙ c.deref_mut-in-None.ensures.len) in
    let old = c.put_lines-in-None.ensures.others d i (λ j y l m e. none j y l m e (
    none_has g.T.Cell.bare c.self.inside.objects c.self.inside.cells.items c.self.view_is c.in-None.is i
    (let w = c.requires.inside y m in omega (arith, w, e, l)))) in
    rw items (none_same g.T.Cell.bare c.self.inside.objects c.self.inside.cells.items c.self.view_is c.in-None.is c.put_lines-in-None.new.cells i d
    (old ∙ ap (λ x. get_or x i d) c.deref_mut-in-None.ensures.value))

pub returns-in-None-clause-kept : goal.returns-in-None-clause-kept
returns-in-None-clause-kept g c =
    let items = with_items_is c.self.inside.cells c.put_lines-in-None.new.cells (c.put_lines-in-None.auto.cells ∙ c.deref_mut-in-None.ensures.len) in
    rw items (none_kept g.T.Cell.bare c.self.inside.objects c.self.inside.cells.items c.self.view_is c.in-None.is c.put_lines-in-None.new.cells
    (c.put_lines-in-None.auto.cells ∙ ap length c.deref_mut-in-None.ensures.value))
