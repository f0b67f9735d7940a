use Rattle.shape_cli.proofs.Complete.{yes, no}
use Rattle.shape_cli.proofs.laws.verdicts_are_right.Goals as goal

pub returns : goal.returns
returns c = record { yes = yes; no = no }
