use Rattle.std.proofs.Common.{◌≡◌, ◌+◌, ◌-◌, subst, ap, ◌∙◌, arith}
use Rattle.measuring.specs.Rows.{row_at}
use Rattle.measuring.specs.Corners.{corners}
use Rattle.measuring.specs.Lines.{AreLines, reach}
use Rattle.measuring.proofs.LinesPut.{put_first}
use Rattle.measuring.proofs.bounds.put_row.Goals as goal

pub returns-then-at-eq0-clause-lines : goal.returns-then-at-eq0-clause-lines
returns-then-at-eq0-clause-lines c = λ h.
    put_first c.args.rows.now c.args.at c.row_of-row.result c.above.result (corners c.args.points.now.items) (corners c.put_line.new.points.items)
    c.requires.rows c.requires.within c.if-at-eq0.true
    c.row_of-row.ensures c.above.ensures.value c.above.ensures.short c.in_ok-put_line.ensures.ends h

pub returns-clause-lines : goal.returns-clause-lines
returns-clause-lines c = λ h.
    let rows = c.args.rows.now in
    let at = c.args.at in
    let n = at - 1 in
    let some = c.if-at-eq0.false in
    let within = c.requires.within in
    let e : at ≡ n + 1 = omega (arith, some) in
    let f : n + 2 ≡ at + 1 = omega (arith, some) in
    let old = subst (λ k. AreLines rows k (reach rows k) (corners c.args.points.now.items)) e h in
    let r = c.in_ok-put_between.ensures.lines rows n c.requires.rows (omega (arith, within, e)) c.row_of.ensures (c.row_of-row.ensures ∙ ap (row_at rows) e) old
    in
    subst (λ k. AreLines rows k (reach rows k) (corners c.put_between.new.points.items)) f r
