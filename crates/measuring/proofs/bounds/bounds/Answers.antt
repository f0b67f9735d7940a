use Rattle.std.proofs.Common.{◌≡◌, ◌-◌, List, length, sym, subst, ap, arith}
use Rattle.shape_space.specs.declared.point.P2.{P2}
use Rattle.measuring.specs.Rows.{row_at}
use Rattle.measuring.specs.Corners.{corners}
use Rattle.measuring.specs.Lines.{AreLines, reach}
use Rattle.measuring.proofs.LinesPut.{no_lines, put_end}
use Rattle.measuring.proofs.Sized.{few_rows}
use Rattle.measuring.proofs.bounds.bounds.Goals as goal

pub loop-at-init : goal.loop-at-init
loop-at-init c =
    let rows = c.args.rows.now in
    let empty = c.new-points.ensures.items in
    let few = ap (λ (l : List P2). length l) empty in
    record {
      lines = subst (λ (l : List P2). AreLines rows 0 (reach rows 0) (corners l)) (sym empty) (no_lines rows c.requires.rows);
      few = omega (arith, few);
    }

pub loop-at-preserved : goal.loop-at-preserved
loop-at-preserved c =
    let old = c.loop-at.invariant.few in
    let new = c.in_ok-put_row.ensures.few in
    record { lines = c.in_ok-put_row.ensures.lines c.loop-at.invariant.lines; few = omega (arith, old, new) }

pub returns-clause-order : goal.returns-clause-order
returns-clause-order c =
    let rows = c.args.rows.now in
    let e : c.loop-at.at ≡ length rows = omega arith in
    let up : c.row_of-last.result ≡ row_at rows (length rows - 1) = c.row_of-last.ensures in
    let h = subst (λ k. AreLines rows k (reach rows k) (corners c.loop-at.points.items)) e c.loop-at.invariant.lines in
    (put_end rows c.row_of-last.result c.below.result (corners c.loop-at.points.items) (corners c.put_line.new.points.items) c.requires.rows c.requires.some up
    c.below.ensures.value c.below.ensures.short
    c.in_ok-put_line.ensures.ends h).1.order

pub returns-clause-short : goal.returns-clause-short
returns-clause-short c =
    let rows = c.args.rows.now in
    let e : c.loop-at.at ≡ length rows = omega arith in
    let up : c.row_of-last.result ≡ row_at rows (length rows - 1) = c.row_of-last.ensures in
    let h = subst (λ k. AreLines rows k (reach rows k) (corners c.loop-at.points.items)) e c.loop-at.invariant.lines in
    (put_end rows c.row_of-last.result c.below.result (corners c.loop-at.points.items) (corners c.put_line.new.points.items) c.requires.rows c.requires.some up
    c.below.ensures.value c.below.ensures.short
    c.in_ok-put_line.ensures.ends h).1.short

pub returns-clause-ends : goal.returns-clause-ends
returns-clause-ends c =
    let rows = c.args.rows.now in
    let e : c.loop-at.at ≡ length rows = omega arith in
    let up : c.row_of-last.result ≡ row_at rows (length rows - 1) = c.row_of-last.ensures in
    let h = subst (λ k. AreLines rows k (reach rows k) (corners c.loop-at.points.items)) e c.loop-at.invariant.lines in
    (put_end rows c.row_of-last.result c.below.result (corners c.loop-at.points.items) (corners c.put_line.new.points.items) c.requires.rows c.requires.some up
    c.below.ensures.value c.below.ensures.short
    c.in_ok-put_line.ensures.ends h).2

pub returns-clause-few : goal.returns-clause-few
returns-clause-few c =
    let rows = c.args.rows.now in
    let e : c.loop-at.at ≡ length rows = omega arith in
    let up : c.row_of-last.result ≡ row_at rows (length rows - 1) = c.row_of-last.ensures in
    let few = few_rows rows c.row_of-last.result c.below.result c.requires.rows c.requires.some up c.below.ensures.value c.below.ensures.short in
    let old = c.loop-at.invariant.few in
    let new = c.in_ok-put_line.ensures.few in
    omega (arith, e, few, old, new)
