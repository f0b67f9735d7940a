use Rattle.std.proofs.Common.{◌≡◌, ◌++◌, ◌∷◌, [], refl, sym, ◌∙◌, arith}
use Rattle.std.proofs.Math.Facts.{to_z-of_z}
use Rattle.std.proofs.lemmas.List.Elements.{All-cons, All-nil}
use Rattle.std.specs.Prelude.{FitsSigned}
use Rattle.std.specs.Int.{w64}
use Rattle.text_terms.specs.Forms.{signed, letter}
use Rattle.text_terms.specs.Fields.{count, row}
use Rattle.report_terms.specs.Lines as Terms
use Rattle.report_terms.specs.Lines.{IsLineOf}
use Rattle.report_text.proofs.Standing.{stands_both}
use Rattle.shape_report.proofs.Standing.{front_of}
use Rattle.shape_report.proofs.front.seg.Goals as goal

pub returns : goal.returns
returns g c =
    let d = g.P.Point.DIM in
    let bytes = c.args.bytes.now in
    let b = c.in_ok-first in
    let e = c.in_ok-last in
    let t = c.in_ok-axis in
    let x = c.in_ok-x in
    let y = c.in_ok-y in
    let m = c.in_ok-mu in
    let a = x.x.value ∷ y.y.value ∷ [] in
    let l = Terms.Seg b.first.value e.last.value t.axis.value a m.mu.value in
    let axes : d ≡ 2 = sym c.DIM.ensures ∙ c.if-DIM-ne2.false in
    let coefficients = All-cons (FitsSigned w64) x.x.value (y.y.value ∷ []) x.ensures.fits
    (All-cons (FitsSigned w64) y.y.value [] y.ensures.fits (All-nil (FitsSigned w64))) in
    let fields : IsLineOf d l = (
      axes,
      (omega (arith, b.ensures.fits), (omega (arith, e.ensures.fits), (t.ensures.fits, (record { axes = refl; fits = coefficients }, m.ensures.fits)))),
    ) in
    let w = (signed w64 63).words in
    let s5 = stands_both bytes x.x.end y.y.end m.mu.end 8 8 (w y.y.value) (w m.mu.value) y.ensures.stands m.ensures.stands in
    let s4 = stands_both bytes t.axis.end x.x.end m.mu.end 8 16 (w x.x.value) (w y.y.value ++ w m.mu.value) x.ensures.stands s5 in
    let s3 = stands_both bytes e.last.end t.axis.end m.mu.end 2 24 ((letter 2).words t.axis.value) ((row 2).words a ++ w m.mu.value) t.ensures.stands s4 in
    let s2 = stands_both bytes b.first.end e.last.end m.mu.end 7 26 (count.words e.last.value)
    ((letter 2).words t.axis.value ++ ((row 2).words a ++ w m.mu.value)) e.ensures.stands s3 in
    let s1 = stands_both bytes 3 b.first.end m.mu.end 7 33 (count.words b.first.value)
    (count.words e.last.value ++ ((letter 2).words t.axis.value ++ ((row 2).words a ++ w m.mu.value))) b.ensures.stands s2 in
    rw (to_z-of_z x.ensures.fits, to_z-of_z y.ensures.fits, to_z-of_z m.ensures.fits)
    (front_of d l bytes 3 m.mu.end 40 fields c.requires.word s1 c.if-bytes-mu-ne10.false (omega arith))
