use Rattle.std.proofs.Common.{inl, inr, refl, arith}
use Rattle.shape_terms.specs.Limits.{most_flat, most_solid}
use Rattle.reports_exist.proofs.BallsExist.{ball_report_met}
use Rattle.reports_exist.proofs.ball_reports_exist.Goals as goal

pub returns-clause-flat : goal.returns-clause-flat
returns-clause-flat c = λ X h r. ball_report_met 2 most_flat X h r (inl refl) (omega arith) (λ e. absurd (omega arith))

pub returns-clause-solid : goal.returns-clause-solid
returns-clause-solid c = λ X h r. ball_report_met 3 most_solid X h r (inr refl) (omega arith) (λ e. omega arith)
