use Rattle.std.proofs.Common.{◌+◌, sym, ◌∙◌, arith}
use Rattle.shape_adj.proofs.Entering.{entered_none, run_start, row_inside, window_beside, none_beside, no_row}
use Rattle.shape_adj.proofs.flood.follow.Goals as goal

pub overflow_add-row : goal.overflow_add-row
overflow_add-row g c =
    let net = c.in_rows.ensures in
    let w = c.requires.following.2 in
    let f = run_start _ _ _ _ c.args.run w.here c.args.start c.requires.start in
    let s = net.sound c.args.start c.args.k c.in-Some.other (omega (arith, f.1, w.here.some, w.here.inside, w.growing.same)) f.0 c.requires.below
    (sym c.step.ensures ∙ c.in-Some.is) in
    let r = row_inside _ _ c.in-Some.other net.some net.whole s.0 s.1 in
    omega (arith, r, net.few, c.row_length.ensures)

pub window-window-requires-clause-on : goal.window-window-requires-clause-on
window-window-requires-clause-on g c = (run_start _ _ _ _ c.args.run c.requires.following.2.here c.args.start c.requires.start).1

pub window-window-requires-clause-some : goal.window-window-requires-clause-some
window-window-requires-clause-some g c = omega (arith, c.requires.following.2.here.some)

pub window-window-requires-clause-within : goal.window-window-requires-clause-within
window-window-requires-clause-within g c =
    let f = run_start _ _ _ _ c.args.run c.requires.following.2.here c.args.start c.requires.start in
    omega (arith, f.2, c.row_length.ensures)

pub enter-requires-clause-beside : goal.enter-requires-clause-beside
enter-requires-clause-beside g c =
    let net = c.in_rows.ensures in
    let w = c.requires.following.2 in
    let f = run_start _ _ _ _ c.args.run w.here c.args.start c.requires.start in
    window_beside c.args.run (record { from = c.in-Some.other; until = c.in-Some.other + c.row_length.result }) c.window-window.result c.args.start
    (g.N.RowNet.width c.args.net.now) (g.N.RowNet.reach c.args.net.now) f.1 w.here.some f.2 (omega (arith, c.row_length.ensures))
    (rw c.row_reach.ensures.value at c.window-window.ensures.from) (rw c.row_reach.ensures.value at c.window-window.ensures.until) _ _ _ _ _ c.args.k net
    (omega (arith, f.1, w.here.some, w.here.inside, w.growing.same)) f.0 c.requires.below (sym c.step.ensures ∙ c.in-Some.is)

pub returns-in_ok-enter-in-Some-clause-none : goal.returns-in_ok-enter-in-Some-clause-none
returns-in_ok-enter-in-Some-clause-none g c =
    let f = run_start _ _ _ _ c.args.run c.requires.following.2.here c.args.start c.requires.start in
    none_beside c.args.run (record { from = c.in-Some.other; until = c.in-Some.other + c.row_length.result }) c.window-window.result c.args.start
    (g.N.RowNet.width c.args.net.now) (g.N.RowNet.reach c.args.net.now) _ _ (sym c.step.ensures ∙ c.in-Some.is) f.1
    c.requires.following.2.here.some f.2 (omega (arith, c.row_length.ensures)) (rw c.row_reach.ensures.value at c.window-window.ensures.from)
    (rw c.row_reach.ensures.value at c.window-window.ensures.until) c.in_ok-enter-in-Some.ensures.none

pub returns-in-None-clause-none : goal.returns-in-None-clause-none
returns-in-None-clause-none g c = no_row _ _ c.args.run c.args.start _ _ (sym c.step.ensures ∙ c.in-None.is)

pub returns-in-None-clause-entered : goal.returns-in-None-clause-entered
returns-in-None-clause-entered g c = entered_none _ _ _ _ _ _ _ _ _
