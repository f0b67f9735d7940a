use Rattle.std.proofs.Common.{sym}
use Rattle.itoa.proofs.Decimal.{length_one, length_two}
use Rattle.shape_desk.proofs.DigitCounts.{length_three, length_of_four}
use Rattle.shape_desk.proofs.digits.short_count.Goals as goal

pub returns-then-n-lt10 : goal.returns-then-n-lt10
returns-then-n-lt10 c = sym (length_one c.args.n c.if-n-lt10.true)

pub returns-then-n-lt100 : goal.returns-then-n-lt100
returns-then-n-lt100 c = sym (length_two c.args.n c.if-n-lt10.false c.if-n-lt100.true)

pub returns-then-n-lt1000 : goal.returns-then-n-lt1000
returns-then-n-lt1000 c = sym (length_three c.args.n c.if-n-lt100.false c.if-n-lt1000.true)

pub returns : goal.returns
returns c = sym (length_of_four c.args.n c.if-n-lt1000.false c.requires)
