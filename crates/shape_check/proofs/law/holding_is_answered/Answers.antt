use Rattle.report_text.proofs.Answered.{answered}
use Rattle.report_terms.specs.Sections.{analysis}
use Rattle.shape_check.proofs.law.holding_is_answered.Goals as goal

pub returns : goal.returns
returns c = λ X. answered (analysis X)
