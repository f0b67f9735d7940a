use Rattle.std.proofs.Common.{arith}
use Rattle.measuring.proofs.MomentBounds.{small_thrice}
use Rattle.measuring.proofs.below.thrice.Goals as goal

pub overflow_mul-result-4 : goal.overflow_mul-result-4
overflow_mul-result-4 c = omega (arith, small_thrice c.args.n c.args.odd c.requires.points c.requires.odd)

pub returns-clause-small : goal.returns-clause-small
returns-clause-small c = small_thrice c.args.n c.args.odd c.requires.points c.requires.odd
