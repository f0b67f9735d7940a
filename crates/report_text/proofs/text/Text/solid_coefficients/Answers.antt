use Rattle.std.proofs.Common.{arith}
use Rattle.report_text.proofs.text.Text.solid_coefficients.Goals as goal

pub number-requires-2 : goal.number-requires-2
number-requires-2 c = omega (arith, c.number.ensures.room)

pub number-requires-3 : goal.number-requires-3
number-requires-3 c = omega (arith, c.number.ensures.room, c.number-2.ensures.room)

pub returns-clause-room : goal.returns-clause-room
returns-clause-room c = omega (arith, c.number.ensures.room, c.number-2.ensures.room, c.number-3.ensures.room)
