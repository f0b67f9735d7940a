use Rattle.std.proofs.Common.{◌≡◌, sym, ◌∙◌, arith}
use Rattle.report_terms.specs.Lines as Terms
use Rattle.report_terms.specs.Lines.{IsLineOf}
use Rattle.shape_report.proofs.Standing.{front_of}
use Rattle.shape_report.proofs.front.at.Goals as goal

pub returns : goal.returns
returns g c =
    let p = c.in_ok-p in
    let l = Terms.At (g.P.Point.coords p.p.value) in
    let axes : g.P.Point.DIM ≡ 2 = sym c.DIM.ensures ∙ c.if-DIM-ne2.false in
    let fields : IsLineOf g.P.Point.DIM l = (axes, rw axes at p.ensures.fits) in
    rw c.put_at.ensures
    (front_of g.P.Point.DIM l c.args.bytes.now 2 p.p.end 24 fields c.requires.word p.ensures.stands p.ensures.lf (omega arith))
