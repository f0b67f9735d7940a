use Rattle.std.proofs.Common.{sym, ◌∙◌}
use Rattle.report_terms.specs.Kinds.{Kind}
use Rattle.shape_report.proofs.Claims.{of_word}
use Rattle.shape_report.proofs.read.later.Goals as goal

pub returns-then-eq : goal.returns-then-eq
returns-then-eq g c = of_word g.P.Point.DIM g.P.Point.coords Kind.Face c.args.word.now _ c.args.words.now c.face.result
    (sym c.eq.ensures ∙ c.if-eq.true) c.as_slice.ensures c.face.ensures

pub returns-then-eq-2 : goal.returns-then-eq-2
returns-then-eq-2 g c = of_word g.P.Point.DIM g.P.Point.coords Kind.Patch c.args.word.now _ c.args.words.now c.patch.result
    (sym c.eq-2.ensures ∙ c.if-eq-2.true) c.as_slice-2.ensures c.patch.ensures

pub returns-then-eq-3 : goal.returns-then-eq-3
returns-then-eq-3 g c = of_word g.P.Point.DIM g.P.Point.coords Kind.On c.args.word.now _ c.args.words.now c.on.result (sym c.eq-3.ensures ∙ c.if-eq-3.true)
    c.as_slice-3.ensures c.on.ensures

pub returns-then-eq-4 : goal.returns-then-eq-4
returns-then-eq-4 g c = of_word g.P.Point.DIM g.P.Point.coords Kind.Off c.args.word.now _ c.args.words.now c.off.result (sym c.eq-4.ensures ∙ c.if-eq-4.true)
    c.as_slice-4.ensures c.off.ensures

pub returns-then-eq-5 : goal.returns-then-eq-5
returns-then-eq-5 g c = of_word g.P.Point.DIM g.P.Point.coords Kind.Del c.args.word.now _ c.args.words.now c.del.result (sym c.eq-5.ensures ∙ c.if-eq-5.true)
    c.as_slice-5.ensures c.del.ensures

pub returns-then-eq-6 : goal.returns-then-eq-6
returns-then-eq-6 g c = of_word g.P.Point.DIM g.P.Point.coords Kind.Tip c.args.word.now _ c.args.words.now c.tip.result (sym c.eq-6.ensures ∙ c.if-eq-6.true)
    c.as_slice-6.ensures c.tip.ensures

pub returns-then-eq-7 : goal.returns-then-eq-7
returns-then-eq-7 g c = of_word g.P.Point.DIM g.P.Point.coords Kind.Kept c.args.word.now _ c.args.words.now c.kept.result
    (sym c.eq-7.ensures ∙ c.if-eq-7.true) c.as_slice-7.ensures c.kept.ensures

pub returns-then-eq-8 : goal.returns-then-eq-8
returns-then-eq-8 g c = of_word g.P.Point.DIM g.P.Point.coords Kind.End c.args.word.now _ c.args.words.now c.end.result (sym c.eq-8.ensures ∙ c.if-eq-8.true)
    c.as_slice-8.ensures c.end.ensures
