use Rattle.std.proofs.Common.{sym, ◌∙◌, subst, [], ◌∷◌}
use Rattle.shape_space.specs.declared.point.P2.{P2}
use Rattle.shape_report.specs.LineOf.{line_of}
use Rattle.std.specs.Prelude.{◌↔◌, IsTrue}
use Rattle.std.proofs.lemmas.Bool.{OnTrue_at, OnTrue_from}
use Rattle.report_terms.specs.Sections.{FlatClaim}
use Rattle.shape_check.proofs.sections.CoverJudgeSectionJudgeP2.take.Goals as goal

pub returns-clause-answer : goal.returns-clause-answer
returns-clause-answer g c = λ X n heading lines ruled h.
    subst (λ k. IsTrue c.take.result ↔ FlatClaim k X.picture lines (line_of (λ (p : P2). p.x ∷ p.y ∷ []) c.args.line.now)) (h.0 ∙ sym ruled.numbered)
    (c.take.ensures.answer X.picture lines h.1)

pub returns-clause-stands : goal.returns-clause-stands
returns-clause-stands g c = λ X n lines h. OnTrue_from c.take.result _ (λ t. (c.take.ensures.number ∙ h.0, OnTrue_at t (c.take.ensures.stands X lines h.1)))
