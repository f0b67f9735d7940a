use Rattle.shape_cli.proofs.Complete.{answers, refuses, lacks}
use Rattle.shape_cli.proofs.laws.runs_are_complete.Goals as goal

pub returns : goal.returns
returns c = record { answers = answers; refuses = refuses; lacks = lacks }
