use Rattle.std.proofs.Common.{◌≡◌, [], ◌∷◌, ◌++◌, ap, ◌∙◌}
use Rattle.shape_cells.proofs.HeldLaws.{filled_more, filled_long, filled_all}
use Rattle.shape_cells.proofs.few.bare_cells.Goals as goal

pub loop-place-preserved : goal.loop-place-preserved
loop-place-preserved g c =
    let a = filled_more g.T.Cell.bare c.args.objects.now c.loop-place.cells.items c.loop-place.from c.in-Some.place c.in-Some.ensures c.loop-place.invariant in
    let e : c.push.new.self.items ≡ c.loop-place.cells.items ++ g.T.Cell.bare c.in-Some.place ∷ [] =
    c.in_ok-push.ensures.items ∙ ap (λ x. c.loop-place.cells.items ++ x ∷ []) c.bare.ensures in
    rw e a

pub returns-clause-long : goal.returns-clause-long
returns-clause-long g c = filled_long g.T.Cell.bare c.args.objects.now c.loop-place.cells.items c.loop-place.from c.loop-place.invariant c.in_default.ensures

pub returns-clause-bare : goal.returns-clause-bare
returns-clause-bare g c = filled_all g.T.Cell.bare c.args.objects.now c.loop-place.cells.items c.loop-place.from c.loop-place.invariant c.in_default.ensures
