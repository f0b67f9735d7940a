use Rattle.std.proofs.Common.{sym, ◌∙◌}
use Rattle.report_terms.specs.Kinds.{Kind}
use Rattle.shape_report.proofs.Claims.{of_word}
use Rattle.shape_report.proofs.read.any.Goals as goal

pub returns-then-eq : goal.returns-then-eq
returns-then-eq g c = of_word g.P.Point.DIM g.P.Point.coords Kind.Shape c.args.word.now _ c.args.words.now c.shape.result (sym c.eq.ensures ∙ c.if-eq.true)
    c.as_slice.ensures c.shape.ensures

pub returns-then-eq-2 : goal.returns-then-eq-2
returns-then-eq-2 g c = of_word g.P.Point.DIM g.P.Point.coords Kind.Parts c.args.word.now _ c.args.words.now c.parts.result
    (sym c.eq-2.ensures ∙ c.if-eq-2.true) c.as_slice-2.ensures c.parts.ensures

pub returns-then-eq-3 : goal.returns-then-eq-3
returns-then-eq-3 g c = of_word g.P.Point.DIM g.P.Point.coords Kind.Near c.args.word.now _ c.args.words.now c.near.result (sym c.eq-3.ensures ∙ c.if-eq-3.true)
    c.as_slice-3.ensures c.near.ensures

pub returns-then-eq-4 : goal.returns-then-eq-4
returns-then-eq-4 g c = of_word g.P.Point.DIM g.P.Point.coords Kind.Contour c.args.word.now _ c.args.words.now c.contour.result
    (sym c.eq-4.ensures ∙ c.if-eq-4.true) c.as_slice-4.ensures c.contour.ensures

pub returns-then-eq-5 : goal.returns-then-eq-5
returns-then-eq-5 g c = of_word g.P.Point.DIM g.P.Point.coords Kind.At c.args.word.now _ c.args.words.now c.at.result (sym c.eq-5.ensures ∙ c.if-eq-5.true)
    c.as_slice-5.ensures c.at.ensures

pub returns-then-eq-6 : goal.returns-then-eq-6
returns-then-eq-6 g c = of_word g.P.Point.DIM g.P.Point.coords Kind.Seg c.args.word.now _ c.args.words.now c.seg.result (sym c.eq-6.ensures ∙ c.if-eq-6.true)
    c.as_slice-6.ensures c.seg.ensures

pub returns-then-eq-7 : goal.returns-then-eq-7
returns-then-eq-7 g c = of_word g.P.Point.DIM g.P.Point.coords Kind.Least c.args.word.now _ c.args.words.now c.least.result
    (sym c.eq-7.ensures ∙ c.if-eq-7.true) c.as_slice-7.ensures c.least.ensures

pub returns-then-eq-8 : goal.returns-then-eq-8
returns-then-eq-8 g c = of_word g.P.Point.DIM g.P.Point.coords Kind.Turn c.args.word.now _ c.args.words.now c.turn.result (sym c.eq-8.ensures ∙ c.if-eq-8.true)
    c.as_slice-8.ensures c.turn.ensures

pub returns-then-eq-9 : goal.returns-then-eq-9
returns-then-eq-9 g c = of_word g.P.Point.DIM g.P.Point.coords Kind.Cut c.args.word.now _ c.args.words.now c.cut.result (sym c.eq-9.ensures ∙ c.if-eq-9.true)
    c.as_slice-9.ensures c.cut.ensures
