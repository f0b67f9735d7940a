use Rattle.text_terms.proofs.FirstBadOnce.{first_bad_once}
use Rattle.report_terms.specs.Sections.{analysis}
use Rattle.shape_check.proofs.law.one_first_bad.Goals as goal

pub returns : goal.returns
returns c = λ X. first_bad_once (analysis X)
