use Rattle.std.proofs.Common.{subst}
use Rattle.shape_check.specs.Rows.{HasTaken}
use Rattle.shape_check.proofs.OneLine.{counts_given}
use Rattle.shape_check.proofs.counts.CountsJudgeSectionJudge.take.Goals as goal

pub returns-in-Parts-clause-answer : goal.returns-in-Parts-clause-answer
returns-in-Parts-clause-answer g c =
    let s = c.args.self.now.counts in
    let l = c.in-Parts in
    rw l.is (λ X n heading lines ruled h. counts_given X.picture s.points s.object s.background l.points l.object l.background lines c.are.result h.0
    (subst (λ b. HasTaken b lines) c.if-self.false h.1) c.are.ensures)
