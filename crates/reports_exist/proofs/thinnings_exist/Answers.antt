use Rattle.reports_exist.proofs.ThinningsExist.{thinnings_had}
use Rattle.reports_exist.proofs.thinnings_exist.Goals as goal

pub returns : goal.returns
returns c = thinnings_had
