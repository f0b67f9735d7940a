use Rattle.reports_exist.proofs.CoversExist.{covers_had}
use Rattle.reports_exist.proofs.covers_exist.Goals as goal

pub returns : goal.returns
returns c = covers_had
