use Rattle.std.proofs.Common.{arith}
use Rattle.std.proofs.lemmas.Int.{ints}
use Rattle.shape_line.proofs.Diagonals.{one_axis}
use Rattle.shape_line.proofs.segment.Segment.refuses_other_axis.Goals as goal

pub returns-clause-alone : goal.returns-clause-alone
returns-clause-alone c = λ t. one_axis c.args.self.now (let e = c.main.ensures.value in omega (arith, ints, e, t))
