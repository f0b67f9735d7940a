use Rattle.std.proofs.Common.{◌≡◌, ◌+◌, ◌∷◌, [], length, arith, sym, ap, ◌∙◌, append-nil, length-append}
use Rattle.shape_adj.proofs.Labelling.{seed_below, fill_start, fill_pop, fill_more, fill_end}
use Rattle.shape_adj.proofs.flood.fill.Goals as goal

pub row_of-row-requires : goal.row_of-row-requires
row_of-row-requires g c = seed_below _ _ _ _ _ _ _ c.in_rows.ensures _ _ _ _ _ c.requires.searched.2.labelling c.requires.next

pub take-requires-clause-within : goal.take-requires-clause-within
take-requires-clause-within g c = omega (arith, c.row_of-row.ensures.inside, c.requires.searched.2.labelling.todo.filled)

pub take-requires-clause-low : goal.take-requires-clause-low
take-requires-clause-low g c = c.row_of-row.ensures.low

pub take-requires-clause-high : goal.take-requires-clause-high
take-requires-clause-high g c = c.row_of-row.ensures.high

pub take-requires-clause-told : goal.take-requires-clause-told
take-requires-clause-told g c =
    let w = c.requires.searched.2 in
    (w.labels, w.told, omega (arith, w.labelling.todo.filled, w.labelling.same))

pub loop-run-init : goal.loop-run-init
loop-run-init g c =
    let w = c.requires.searched.2 in
    let k = c.in_ok-take.ensures in
    let r = c.row_of-row.ensures in
    rw k.listed (fill_start _ _ _ _ _ _ _ c.in_rows.ensures _ _ _ _ _ w.labelling c.requires.next c.row_of-row.result _ k.run k.taken
    r.first r.last r.inside _ _ c.requires.searched.1 (k.told w.labels w.told))

pub spread-requires : goal.spread-requires
spread-requires g c =
    let w = c.loop-run.invariant in
    (w.labels, w.told, fill_pop _ _ _ _ _ _ _ _ _ _ _ w _ _ c.in-Some.ensures.items)

pub loop-run-smaller : goal.loop-run-smaller
loop-run-smaller g c =
    let e : length c.loop-run.search.work.items ≡ length c.pop.new.self.items + 1 =
    ap length c.in-Some.ensures.items ∙ length-append c.pop.new.self.items (c.in-Some.run' ∷ []) in
    let l = c.in_ok-spread.ensures.less in
    omega arith

pub loop-run-preserved : goal.loop-run-preserved
loop-run-preserved g c =
    let w = c.loop-run.invariant in
    let m = c.in_ok-spread.ensures.grown w.labels w.told (fill_pop _ _ _ _ _ _ _ _ _ _ _ w _ _ c.in-Some.ensures.items) in
    fill_more _ _ _ _ _ _ _ _ _ _ _ w _ _ _ _ m.1 m.2

pub returns : goal.returns
returns g c =
    fill_end _ _ _ _ _ _ _ _ _ _ _ c.loop-run.invariant _ _ _ _ c.in_rows.ensures c.pop.new.self.items
    (let z = c.in_default.ensures.cases in omega arith) (simp append-nil at (sym c.in_default.ensures.items))
