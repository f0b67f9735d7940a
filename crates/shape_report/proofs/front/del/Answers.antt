use Rattle.std.proofs.Common.{arith}
use Rattle.report_terms.specs.Lines as Terms
use Rattle.report_terms.specs.Lines.{IsLineOf}
use Rattle.shape_report.proofs.Standing.{front_of}
use Rattle.shape_report.proofs.front.del.Goals as goal

pub returns : goal.returns
returns g c =
    let p = c.in_ok-p in
    rw c.put_del.ensures
    (front_of g.P.Point.DIM (Terms.Del (g.P.Point.coords p.p.value)) c.args.bytes.now 3 p.p.end 24 p.ensures.fits c.requires.word p.ensures.stands
    p.ensures.lf (omega arith))
