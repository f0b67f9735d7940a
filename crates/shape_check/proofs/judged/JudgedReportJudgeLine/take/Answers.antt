use Rattle.std.proofs.Common.{sym, subst}
use Rattle.shape_report.specs.LineOf.{line_of}
use Rattle.shape_check.specs.Going.{Ruled}
use Rattle.shape_check.proofs.FirstLine.{may_come, ruled_more}
use Rattle.shape_check.proofs.judged.JudgedReportJudgeLine.take.Goals as goal

pub returns-clause-answer : goal.returns-clause-answer
returns-clause-answer g c = λ X lines h.
    let l = line_of g.P.Point.coords c.args.line.now in
    let k = subst (λ z. Ruled X ((g.dyn-1.0.entry z.0).1.means z.1)
    (λ n. g.R.Judges.follows X n ((g.dyn-1.0.entry z.0).1.means z.1) c.args.self.now.row ((g.dyn-1.0.entry z.0).1.state z.1)) lines)
    (sym c.deref_box_mut-1.ensures.value.1) h in
    c.take.ensures.answer X k.number lines k.ruled k.follows (may_come X k.number _ g.R.Judges.section g.met.R.Row.first lines l k.ruled)

pub returns-clause-stands : goal.returns-clause-stands
returns-clause-stands g c = λ X lines h.
    let l = line_of g.P.Point.coords c.args.line.now in
    let s = g.R.Judges.section in
    let first = g.met.R.Row.first in
    let k = subst (λ z. Ruled X ((g.dyn-1.0.entry z.0).1.means z.1)
    (λ n. g.R.Judges.follows X n ((g.dyn-1.0.entry z.0).1.means z.1) c.args.self.now.row ((g.dyn-1.0.entry z.0).1.state z.1)) lines)
    (sym c.deref_box_mut-1.ensures.value.1) h in
    let may = may_come X k.number _ s first lines l k.ruled in
    let answer = c.take.ensures.answer X k.number lines k.ruled k.follows may in
    let follows = c.take.ensures.follows X k.number lines k.ruled k.follows may in
    ruled_more X _ _ c.take.ensures.same_rule s first lines l _
    (λ r n ls. g.R.Judges.follows X n r c.take.new.self ((g.dyn-1.0.entry c.deref_box_mut-1.result.now.0).1.state c.take.new.rule) ls)
    k c.take.result answer follows
