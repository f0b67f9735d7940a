use Rattle.std.proofs.Common.{arith}
use Rattle.shape_desk.proofs.ShortDigits.{short_zero}
use Rattle.shape_desk.proofs.short.read_short.Goals as goal

pub returns-then-first-eq48 : goal.returns-then-first-eq48
returns-then-first-eq48 c = short_zero c.args.bytes.now (omega (arith, c.requires)) c.if-first-eq48.true
