use Rattle.report_text.proofs.Telling.{telling_none}
use Rattle.report_text.proofs.page.Page.new.Goals as goal

pub returns : goal.returns
returns c = λ d. telling_none d
