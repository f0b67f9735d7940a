use Rattle.std.proofs.Common.{◌++◌, ◌<◌, ◌^◌, arith}
use Rattle.report_terms.specs.Lines as Terms
use Rattle.report_terms.specs.Lines.{IsLineOf}
use Rattle.text_terms.specs.Fields.{point, count}
use Rattle.report_text.proofs.Standing.{stands_both}
use Rattle.shape_report.proofs.Standing.{front_of}
use Rattle.shape_report.proofs.front.near.Goals as goal

pub returns : goal.returns
returns g c =
    let d = g.P.Point.DIM in
    let bytes = c.args.bytes.now in
    let p = c.in_ok-p in
    let q = c.in_ok-q in
    let s = c.in_ok-s in
    let v = g.P.Point.coords p.p.value in
    let w = g.P.Point.coords q.q.value in
    let short : s.s.value < 2 ^ 63 = omega (arith, s.ensures.fits) in
    let behind = stands_both bytes p.p.end q.q.end s.s.end 24 7 ((point d).words w) (count.words s.s.value) q.ensures.stands s.ensures.stands in
    let all = stands_both bytes 4 p.p.end s.s.end 24 31 ((point d).words v) ((point d).words w ++ count.words s.s.value) p.ensures.stands behind in
    rw (c.put_near.ensures, c.from.ensures)
    (front_of d (Terms.Near v w s.s.value) bytes 4 s.s.end 55 (p.ensures.fits, (q.ensures.fits, short)) c.requires.word all c.if-bytes-s-ne10.false
    (omega arith))
