use Rattle.std.proofs.Common.{length}
use Rattle.text_terms.proofs.CutTexts.{cut_text}
use Rattle.report_terms.specs.Sections.{analysis}
use Rattle.report_terms.proofs.SectionLaws.{is_report}
use Rattle.report_terms.proofs.Spelled.{are_spelled}
use Rattle.shape_check.proofs.law.cut_reports_are_bad.Goals as goal

pub returns : goal.returns
returns c = λ X. cut_text (analysis X) (is_report X) (are_spelled (length X.picture.sides))
