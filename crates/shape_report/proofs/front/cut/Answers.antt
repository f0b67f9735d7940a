use Rattle.std.proofs.Common.{◌≡◌, sym, ◌∙◌}
use Rattle.text_terms.specs.Forms.{letter}
use Rattle.text_terms.specs.Weights.{why}
use Rattle.report_terms.specs.Lines as Terms
use Rattle.report_terms.specs.Lines.{IsLineOf}
use Rattle.shape_refute.specs.Evidences.{evidence_of}
use Rattle.shape_refute.specs.Weights.{refutation_of}
use Rattle.shape_refute.specs.declared.refusal.Refusal.TheVariants.{Cut}
use Rattle.report_text.proofs.Standing.{stands_both}
use Rattle.shape_report.proofs.Standing.{short_front}
use Rattle.shape_report.proofs.front.cut.Goals as goal

pub returns : goal.returns
returns g c =
    let d = g.P.Point.DIM in
    let bytes = c.args.bytes.now in
    let t = c.in_ok-axis in
    let w = c.in_ok-why in
    let r = refutation_of w.why.value in
    let l = Terms.Gap t.axis.value (evidence_of (Cut w.why.value)) in
    let axes : d ≡ 2 = sym c.DIM.ensures ∙ c.if-DIM-ne2.false in
    let fields : IsLineOf d l = (axes, (t.ensures.fits, w.ensures.fits)) in
    let all = stands_both bytes 3 t.axis.end w.why.end 2 166 ((letter 2).words t.axis.value) ((why 2).words r) t.ensures.stands w.ensures.stands in
    let end = c.ends_at.ensures c.if-not-ends_at.false in
    short_front d l bytes 3 w.why.end 168 fields c.requires.word all end.1 end.0
