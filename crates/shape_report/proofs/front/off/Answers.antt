use Rattle.std.proofs.Common.{◌≡◌, sym, ◌∙◌}
use Rattle.text_terms.specs.Fields.{point}
use Rattle.text_terms.specs.Weights.{why}
use Rattle.report_terms.specs.Lines as Terms
use Rattle.report_terms.specs.Lines.{IsLineOf}
use Rattle.shape_refute.specs.Weights.{refutation_of}
use Rattle.report_text.proofs.Standing.{stands_both}
use Rattle.shape_report.proofs.Standing.{short_front}
use Rattle.shape_report.proofs.front.off.Goals as goal

pub returns : goal.returns
returns g c =
    let d = g.P.Point.DIM in
    let bytes = c.args.bytes.now in
    let p = c.in_ok-p in
    let w = c.in_ok-why in
    let v = g.P.Point.coords p.p.value in
    let r = refutation_of w.why.value in
    let l = Terms.Off v r in
    let axes : d ≡ 3 = sym c.DIM.ensures ∙ c.if-DIM-ne3.false in
    let fields : IsLineOf d l = (axes, (rw axes at p.ensures.fits, w.ensures.fits)) in
    let all = stands_both bytes 3 p.p.end w.why.end 24 166 ((point d).words v) ((why 3).words r) p.ensures.stands w.ensures.stands in
    let end = c.ends_at.ensures c.if-not-ends_at.false in
    short_front d l bytes 3 w.why.end 190 fields c.requires.word all end.1 end.0
