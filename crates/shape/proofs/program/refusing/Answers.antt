use Rattle.std.proofs.Common.{refl}
use Rattle.shape.proofs.Ended.{words_refused}
use Rattle.shape.proofs.program.refusing.Goals as goal

pub returns : goal.returns
returns c = λ words desk none page form. words_refused words none page desk desk c.of_command.result form refl c.of_command.ensures
