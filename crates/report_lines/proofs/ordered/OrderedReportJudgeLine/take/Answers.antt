use Rattle.std.proofs.Common.{◌≤◌, ◌<◌, ◌++◌, ◌∷◌, [], refl, sym, subst}
use Rattle.std.proofs.lemmas.Bool.{false≢true}
use Rattle.shape_report.specs.LineOf.{line_of}
use Rattle.report_lines.specs.Standing.{HasRisenTo}
use Rattle.report_lines.proofs.Order.{too_early, behind_end, comes_next, risen_more}
use Rattle.report_lines.proofs.ordered.OrderedReportJudgeLine.take.Goals as goal
use Rattle.report_lines.proofs.ordered.OrderedReportJudgeLine.take.Goals.{then-rank-self-via-then-rank-self}
use Rattle.report_lines.proofs.ordered.OrderedReportJudgeLine.take.Goals.{then-rank-self-via-else-rank-self+then-self-eq-LAST}

pub returns-then-rank-self-clause-answer : goal.returns-then-rank-self-clause-answer
returns-then-rank-self-clause-answer g c = λ u lines s.
    let r = c.args.self.now.rank in
    let l = line_of g.P.Point.coords c.args.line.now in (
      λ f. absurd (false≢true f),
      λ k. absurd (elim c.then-rank-self.branch [
        | then-rank-self-via-then-rank-self w ↦ too_early r lines s.come g.P.Point.MAX_SIDE l (subst (λ n. n < r) c.rank-rank.ensures w.if-rank-self.true) k
        | then-rank-self-via-else-rank-self+then-self-eq-LAST w ↦ behind_end r lines s.come g.P.Point.MAX_SIDE l w.if-self-eq-LAST.true k
      ]),
    )

pub returns-clause-answer : goal.returns-clause-answer
returns-clause-answer g c = λ u lines s.
    let r = c.args.self.now.rank in
    let l = line_of g.P.Point.coords c.args.line.now in
    (λ t. comes_next r lines s.come g.P.Point.MAX_SIDE l (subst (λ n. r ≤ n) c.rank-rank.ensures c.if-rank-self.false) c.if-self-eq-LAST.false, λ k. refl)

pub returns-clause-stands : goal.returns-clause-stands
returns-clause-stands g c = λ u lines s.
    let r = c.args.self.now.rank in
    let l = line_of g.P.Point.coords c.args.line.now in
    record {
      come = subst (λ n. HasRisenTo n (lines ++ l ∷ [])) (sym c.rank-rank.ensures)
          (risen_more r lines s.come l (subst (λ n. r ≤ n) c.rank-rank.ensures c.if-rank-self.false));
      sketch_is = c.in_ok-take.ensures lines s.sketch_is;
    }
