use Rattle.reports_exist.proofs.PartsExist as Parts
use Rattle.reports_exist.proofs.counts_exist.Goals as goal

pub returns : goal.returns
returns c = Parts.counts_exist
