use Rattle.std.proofs.Common.{arith}
use Rattle.std.proofs.lemmas.List.{length-take-le}
use Rattle.report_text.proofs.text.Text.bytes.Goals as goal

pub returns-clause-text : goal.returns-clause-text
returns-clause-text c = c.self.view_is

pub returns-clause-room : goal.returns-clause-room
returns-clause-room c = let i = c.self.inside in omega (arith, length-take-le i.len i.bytes (omega (arith, c.self.told)))
