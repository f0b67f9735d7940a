use Rattle.std.proofs.Common.{refl}
use Rattle.shape.proofs.Ended.{memory_lacked}
use Rattle.shape.proofs.program.lacking.Goals as goal

pub returns : goal.returns
returns c = λ words desk form. memory_lacked words desk desk c.of_command.result form refl c.of_command.ensures
