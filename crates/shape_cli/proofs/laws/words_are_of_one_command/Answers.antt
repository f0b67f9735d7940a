use Rattle.shape_cli.proofs.OneCommand.{one, ran}
use Rattle.shape_cli.proofs.laws.words_are_of_one_command.Goals as goal

pub returns : goal.returns
returns c = record { one = one; ran = ran }
